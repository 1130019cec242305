-- The promise: what the answers of a run rest on, by the definitions of executions alone.
use Rattle.std.specs.Prelude.{ℕ, ◌≡◌, ◌<◌, ◌↔◌, not, List, [], length, map, filter, fold, Ok}
use Rattle.patch_model.specs.Pile.{pile}
use Rattle.patch_model.specs.Execution.{Execution, extended}
use Rattle.patch_model.specs.Step as step
use Rattle.patch_model.specs.Entry.{is_memory, is_among}
use Rattle.patch_model.specs.State.{entries_of}
use Rattle.patch_model.specs.History.{History, Move, Take, Back, history_of, moved, IsPermitted, HoldsDependents, without, cached}
use Rattle.patch_model.specs.Legal.{IsLegal}
use Rattle.patch_model.specs.Refusing.{class_named}
use Rattle.patch_model.specs.Crash.{IsClosed, AreWhole, crash_set}
use Rattle.patch_cache.specs.Viewing.{with_moves, bytes_at}
use Rattle.patch_cache.specs.Asks.{Send, View, Sent, Seen, IsAnswer}
use Rattle.patch_cache.specs.declared.asks.Move.{Move as PatchMove}
use Rattle.patch_cache.specs.declared.asks.Move.TheVariants as patch

-- the names that are taken after the moves
abbrev pub taken_by : List Move → List ℕ
taken_by moves = fold moved [] moves

-- In any permitted order each taken set holds its dependents; what is left doesn't depend on the order that led to it; and
-- with all put back it is the cached block.
abbrev pub TakingBack : Type 0
TakingBack =
    (run : Execution) (block : ℕ) (moves : List Move)
    → IsLegal run → IsPermitted (history_of run block) [] moves
    → let h = history_of run block in
    (HoldsDependents h (taken_by moves))
    × ((others : List Move) → IsPermitted h [] others → ((n : ℕ) → is_among (taken_by others) n ≡ is_among (taken_by moves) n)
    → without h (taken_by others) ≡ without h (taken_by moves))
    × (taken_by moves ≡ [] → without h (taken_by moves) ≡ cached h)

-- The image that a send answers is the pile, over the first bytes, of the block's patches that are durable or in flight once
-- it is sent.
abbrev pub ImagesSent : Type 0
ImagesSent =
    (run : Execution) (block sent : ℕ) (numbers bytes : List ℕ)
    → IsAnswer run (Send block) (Sent sent numbers bytes)
    → let h = history_of (extended run (step.Send block)) block in
    bytes ≡ pile h.first (map (λ e. e.patch) (filter (λ e. not (is_memory e)) h.entries))

-- what a crash can leave holds each patch that one of it depends on, and is made of whole classes
abbrev pub CrashesClosed : Type 0
CrashesClosed =
    (run : Execution) (landed : List ℕ)
    → IsLegal run → IsClosed (entries_of run) (crash_set landed) × AreWhole (entries_of run) (crash_set landed)

-- the move of a patch's class
abbrev pub class_move : History → PatchMove → Move
class_move h (patch.Take number) = Take (class_named h number)
class_move h (patch.Back number) = Back (class_named h number)

-- Moves of patches are accepted in a view just where the moves of their classes are a permitted order, and then they take
-- what that order takes.
abbrev pub MovesArePermitted : Type 0
MovesArePermitted =
    (run : Execution) (block : ℕ) (moves : List PatchMove) (names : List ℕ)
    → IsLegal run → block < length run.first
    → let order = map (class_move (history_of run block)) moves in
    (with_moves run block [] moves ≡ Ok names) ↔ (IsPermitted (history_of run block) [] order × (taken_by order ≡ names))

-- What a look answers is, of the span, the pile over the first bytes of the block's patches that aren't taken, where the moves
-- of their classes were a permitted order, and the pile of all of them.
abbrev pub LooksShow : Type 0
LooksShow =
    (run : Execution) (block start len : ℕ) (moves : List PatchMove) (without cached : List ℕ)
    → IsLegal run → IsAnswer run (View block moves start len) (Seen without cached)
    → let h = history_of run block in
    let order = map (class_move h) moves in
    IsPermitted h [] order
    × (without ≡ bytes_at (pile h.first (map (λ e. e.patch) (filter (λ e. not (is_among (taken_by order) e.class)) h.entries))) start len)
    × (cached ≡ bytes_at (pile h.first (map (λ e. e.patch) h.entries)) start len)
