-- What is told of bytes that are read.
use Rattle.std.specs.Prelude.{ℕ, ℤ, pos, ◌≡◌, List, length, Some}
use Rattle.std.specs.Global.{Global}
use Rattle.patch_model.specs.declared.refusals.RefusalKind.TheVariants as kind
use Rattle.patch_model.specs.Execution.{Execution}
use Rattle.patch_model.specs.Refusal.{code_of}
use Rattle.patch_cache.specs.Paging.{if_resident}
use Rattle.patch_cache.specs.Refusals.{take_cause}
use Rattle.patch_cache.specs.Viewing.{why_not_read, IsRead}
use Rattle.patch_engine.specs.Meaning.{IsEngineOf}
use Rattle.patch_engine.specs.Refusals.{without_cause}
use Rattle.patch_engine.specs.Showing.{IsShownWithout, why_not_without}
use Rattle.patch_engine.specs.declared.engines.Engine.{Engine}
use Rattle.patch_engine.specs.declared.refusals.WithoutRefusal.{WithoutRefusal}
use Rattle.patch_engine.specs.declared.refusals.WithoutRefusal.TheVariants as without
use Rattle.patch_handles.specs.declared.answers.Answer.TheVariants.{Refused}
use Rattle.patch_handles.specs.Answering.{number_of, number_told}
use Rattle.patch_engine_c.specs.Answering.{Tells}

-- the buffer then has the bytes of the block from a place on, as many as it has room for
abbrev pub TellsReading : (number : ℤ) → (block start : ℕ) (into into_now : List ℕ) → Engine Global → Type 0
TellsReading number block start into into_now engine = (run : Execution) → IsEngineOf engine run → Tells number
    (IsRead run block start (length into) into_now)
    (λ cause. (if_resident engine.cache block (why_not_read run block start (length into)) ≡ Some cause) × (into_now ≡ into))

-- the number of the patch that stands in the way, where one does
abbrev pub which_told : WithoutRefusal → ℕ → ℕ
which_told (without.Unread refusal) before = before
which_told (without.Untaken refusal) before = number_told (take_cause refusal) before

-- the buffer then has them without the classes of these patches; or it is as it was
pub data HasShown (run : Execution) (number : ℤ) (block : ℕ) (patches : List ℕ) (start : ℕ) (into into_now : List ℕ) (which which_now : ℕ) (engine : Engine Global) : Type 0 where
  is_done : number ≡ pos 0 → length into_now ≡ length into → IsShownWithout run block patches start into_now → which_now ≡ which
      → HasShown run number block patches start into into_now which which_now engine
  is_refused : (refusal : WithoutRefusal) → number ≡ pos (code_of (without_cause refusal).kind)
      → why_not_without engine.cache run block patches start (length into) ≡ Some (without_cause refusal)
      → into_now ≡ into → which_now ≡ which_told refusal which → HasShown run number block patches start into into_now which which_now engine
  no_memory : number ≡ number_of (Refused kind.OutOfMemory) → into_now ≡ into → which_now ≡ which
      → HasShown run number block patches start into into_now which which_now engine

-- and the engine is as before
abbrev pub TellsWithout : (number : ℤ) → (block : ℕ) (patches : List ℕ) (start : ℕ) (into into_now : List ℕ) (which which_now : ℕ) → (old new : Engine Global) → Type 0
TellsWithout number block patches start into into_now which which_now old new = (run : Execution) → IsEngineOf old run →
    HasShown run number block patches start into into_now which which_now old × (new ≡ old)
