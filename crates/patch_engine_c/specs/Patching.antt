-- What is told of a patch that is made, and of two that become one.
use Rattle.std.specs.Prelude.{ℕ, ℤ, ◌≡◌, List, MatchOption}
use Rattle.std.specs.Global.{Global}
use Rattle.patch_model.specs.Execution.{Execution}
use Rattle.patch_model.specs.State.{entries_of}
use Rattle.patch_cache.specs.Paging.{if_resident}
use Rattle.patch_cache.specs.Refusals.{IsMergeCause}
use Rattle.patch_plans.specs.Groups.{why_not_patched}
use Rattle.patch_group.specs.Refusals.{IsCauseOf}
use Rattle.patch_engine.specs.Meaning.{IsEngineOf, IsPatched, IsMerged}
use Rattle.patch_engine.specs.declared.engines.Engine.{Engine}
use Rattle.patch_handles.specs.Answering.{patching_writer, number_told}
use Rattle.patch_engine_c.specs.Answering.{Tells, bad_writer}
use Rattle.patch_engine_c.specs.Numbers.{undo_of}

-- A patch: the number of the new one then stands where another did before. There is no writer of its number, which goes before all else;
-- or it is made; or it is refused, for this cause or for want of memory.
abbrev pub TellsPatching : (number : ℤ) → (writer block start : ℕ) (bytes after : List ℕ) (flags : ℕ) → (before now : ℕ) → (old new : Engine Global) → Type 0
TellsPatching number writer block start bytes after flags before now old new = MatchOption (patching_writer writer)
    ((number ≡ bad_writer) × (new ≡ old) × (now ≡ before))
    (λ maker. (run : Execution) → IsEngineOf old run → Tells number
    (IsPatched run old maker block start bytes after (undo_of flags) now new)
    (λ cause. IsCauseOf (if_resident old.cache block (why_not_patched run old.groups maker block start bytes after)) cause × (new ≡ old) × (now ≡ before)))

-- A merge: its name then stands where a number did before; or the number that goes with the cause does, where one goes with it.
abbrev pub TellsMerging : (number : ℤ) → (a b : ℕ) → (name name_now which which_now : ℕ) → (old new : Engine Global) → Type 0
TellsMerging number a b name name_now which which_now old new = (run : Execution) → IsEngineOf old run → Tells number
    (IsMerged run a b name_now new × (which_now ≡ which))
    (λ cause. IsMergeCause (entries_of run) a b cause × (new ≡ old) × (name_now ≡ name) × (which_now ≡ number_told cause which))
