-- What an execution has come to, and what one more step makes of it.
use Rattle.std.specs.Prelude.{ℕ, IsFalse, List, Contains, count_by, length}
use Rattle.patch_model.specs.Step.{Step}
use Rattle.patch_model.specs.Execution.{Execution, extended}
use Rattle.patch_model.specs.Entry.{Entry, is_live}
use Rattle.patch_model.specs.Ready.{ready}
use Rattle.patch_model.specs.State.{class_of, has_flight, state_of, entries_of, flying_of, numbers_of}
use Rattle.patch_model.specs.Legal.{IsLegalStep, block_of_patch}
use Rattle.patch_model.specs.History.{History, history_of}

-- the patch is one of the execution's
abbrev pub IsMade : Execution → Entry → Type 0
IsMade run e = Contains (entries_of run) e

-- no write of the block is under way
abbrev pub IsIdle : Execution → ℕ → Type 0
IsIdle run block = IsFalse (has_flight (state_of run) block)

-- the step may come next
abbrev pub MayFollow : Execution → Step → Type 0
MayFollow run step = IsLegalStep (length run.first) (state_of run) step

-- the history of a block once the step is taken
abbrev pub history_after : Execution → Step → ℕ → History
history_after run step block = history_of (extended run step) block

-- the class of the patch of this number, and its block
abbrev pub class_in : Execution → ℕ → ℕ
class_in run number = class_of (entries_of run) number

abbrev pub block_in : Execution → ℕ → ℕ
block_in run number = block_of_patch (entries_of run) number

-- how many patches are live
abbrev pub live_count : Execution → ℕ
live_count run = count_by is_live (entries_of run)

-- what a send of the block takes
abbrev pub ready_in : Execution → ℕ → List Entry
ready_in run block = ready (entries_of run) block

-- the numbers of it
abbrev pub ready_numbers : Execution → ℕ → List ℕ
ready_numbers run block = numbers_of (ready_in run block)

-- the numbers of what is in flight of the block
abbrev pub flying_numbers : Execution → ℕ → List ℕ
flying_numbers run block = numbers_of (flying_of (entries_of run) block)
