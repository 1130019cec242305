use Rattle.std.proofs.Common.{◌≡◌, ℕ, zero, suc, ◌<◌, ◌≤◌, ◌∙◌, [], get_or, set, refl, sym, ap, arith}
use Rattle.std.proofs.lemmas.List.{get_or-replicate, set-get_or}
use Rattle.patch_frame.specs.Field.{zeros}
use Rattle.patch_recovery.specs.Reading.{map_read}
use Rattle.patch_recovery.specs.Rows.{zero_block, one_put, zeroed}
use Rattle.patch_recovery.proofs.rows.unnamed_blocks.Goals as goal

-- behind the frame's block there are zeros
zeros_there : (n : ℕ) → 4 ≤ n → n < 35 → get_or one_put n [] ≡ zero_block
zeros_there zero from to = absurd (omega arith)
zeros_there (suc zero) from to = absurd (omega arith)
zeros_there (suc (suc zero)) from to = absurd (omega arith)
zeros_there (suc (suc (suc zero))) from to = absurd (omega arith)
zeros_there (suc (suc (suc (suc n)))) from to = get_or-replicate 31 n zero_block [] (omega arith)

as_it_was : (n : ℕ) → 4 ≤ n → n < 35 → zeroed n one_put ≡ one_put
as_it_was n from to = ap (set one_put n) (sym (zeros_there n from to)) ∙ set-get_or one_put n []

pub returns-clause-zeros : goal.returns-clause-zeros
unfolding zeros
returns-clause-zeros c n from to = ap map_read (as_it_was n from to) ∙ refl

pub returns-clause-behind : goal.returns-clause-behind
unfolding zeros
returns-clause-behind c = refl

pub returns-clause-last : goal.returns-clause-last
unfolding zeros
returns-clause-last c = refl
