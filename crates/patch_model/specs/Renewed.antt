-- An execution that begins anew with what the blocks of another one hold.
use Rattle.std.specs.Prelude.{ℕ, Bool, IsTrue, List, [], length, map}
use Rattle.std.specs.List.{list_all, range_with_len}
use Rattle.patch_model.specs.Execution.{Execution}
use Rattle.patch_model.specs.Entry.{is_durable}
use Rattle.patch_model.specs.History.{history_of, cached}

-- the blocks with all patches
abbrev pub cached_blocks : Execution → List (List ℕ)
cached_blocks run = map (λ block. cached (history_of run block)) (range_with_len 0 (length run.first))

-- the execution that begins with them, and has no step yet
abbrev pub renewed : Execution → Execution
renewed run = record { first = cached_blocks run; steps = [] }

-- no patch of the block is live
abbrev pub is_clean : Execution → ℕ → Bool
is_clean run block = list_all is_durable (history_of run block).entries

-- no patch is live at all
abbrev pub AreAllClean : Execution → Type 0
AreAllClean run = (block : ℕ) → IsTrue (is_clean run block)
