use Rattle.std.proofs.Common.{◌≤◌, List, [], ◌∷◌, length, drop, refl, arith}
use Rattle.std.proofs.lemmas.Bool.Decides.{nat_tests}
use Rattle.patch_frame.specs.Field.{zeros}
use Rattle.patch_recovery.specs.Change.{Made}
use Rattle.patch_recovery.specs.Said.{AreMoves}
use Rattle.patch_recovery.specs.Runs.{first_ledger, content_b, fields_at, each_command, is_the_move}
use Rattle.patch_recovery.proofs.EachCommand.{is_of_store}
use Rattle.patch_recovery.proofs.rows.each_command_is_of_a_store.Goals as goal

pub returns-clause-store : goal.returns-clause-store
returns-clause-store c =
    is_of_store c.stores_grow.ensures.begin c.stores_grow.ensures.grow c.names_suffice.ensures
    c.puts_are_well_made.ensures.well_made

-- what was made before the move holds none
none_before : (ms : List Made) → length ms ≤ 10 → AreMoves is_the_move first_ledger ms
none_before [] few = tt
none_before (m ∷ ms) few = (λ h. absurd (grind (arith, nat_tests)), none_before ms (omega arith))

pub returns-clause-moves : goal.returns-clause-moves
unfolding zeros
returns-clause-moves c =
    (λ h. absurd (cc), (λ h. (fields_at content_b 0 18, refl, refl), none_before (drop 2 each_command) (omega arith)))

pub returns-clause-cached : goal.returns-clause-cached
unfolding zeros
returns-clause-cached c = refl

pub returns-clause-before_move : goal.returns-clause-before_move
unfolding zeros
returns-clause-before_move c = refl

pub returns-clause-before_move_closed : goal.returns-clause-before_move_closed
unfolding zeros
returns-clause-before_move_closed c = refl
