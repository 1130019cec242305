-- What is told of blocks that become resident, and of those that are let go.
use Rattle.std.specs.Prelude.{ℕ, ℤ, pos, ◌≡◌, ◌<◌, ◌≤◌, List, length, take, slice_set, None, Some}
use Rattle.std.specs.Global.{Global}
use Rattle.patch_model.specs.declared.blocks.TheConstants.{BLOCK}
use Rattle.patch_model.specs.declared.refusals.RefusalKind.TheVariants as kind
use Rattle.patch_model.specs.Execution.{Execution}
use Rattle.patch_model.specs.History.{history_of, cached}
use Rattle.patch_cache.specs.Paging.{with_admitted, IsWhyNotAdmitted, why_not_evicted}
use Rattle.patch_cache.specs.declared.refusals.AdmitRefusal.{AdmitRefusal}
use Rattle.patch_cache.specs.declared.refusals.AdmitRefusal.TheVariants as admit
use Rattle.patch_engine.specs.Meaning.{IsEngineOf, KeepsRest}
use Rattle.patch_engine.specs.declared.engines.Engine.{Engine}
use Rattle.patch_handles.specs.declared.answers.Answer.{Answer}
use Rattle.patch_handles.specs.declared.answers.Answer.TheVariants.{Refused, IsResident}
use Rattle.patch_handles.specs.Answering.{number_of}
use Rattle.patch_engine_c.specs.Answering.{Tells, too_small}

-- the block is resident, with these bytes; and where the cached block had them the engine stands for the same execution
pub record IsAdmitted (block : ℕ) (bytes : List ℕ) (old new : Engine Global) : Type 0 where
  pub cache_is : new.cache ≡ with_admitted old.cache block bytes
  pub rest : KeepsRest old new
  pub stands : (run : Execution) → IsEngineOf old run → cached (history_of run block) ≡ bytes → IsEngineOf new run

-- what is answered where a block isn't admitted
abbrev pub admit_answer : AdmitRefusal → Answer
admit_answer admit.NoSuchBlock = Refused kind.NoSuchBlock
admit_answer admit.IsResident = IsResident
admit_answer admit.OutOfMemory = Refused kind.OutOfMemory

-- Blocks have 4,096 bytes: so many of those that are given. Where they were to be copied there may be no memory, whether or not another
-- cause stands against it.
pub data TellsAdmitting (number : ℤ) (block : ℕ) (bytes : List ℕ) (old new : Engine Global) : Type 0 where
  is_done : number ≡ pos 0 → BLOCK ≤ length bytes → IsAdmitted block (take BLOCK bytes) old new → TellsAdmitting number block bytes old new
  is_refused : (refusal : AdmitRefusal) → number ≡ number_of (admit_answer refusal) → BLOCK ≤ length bytes → IsWhyNotAdmitted old.cache block refusal
      → new ≡ old → TellsAdmitting number block bytes old new
  no_memory : number ≡ number_of (Refused kind.OutOfMemory) → BLOCK ≤ length bytes → new ≡ old → TellsAdmitting number block bytes old new
  too_short : number ≡ too_small → length bytes < BLOCK → new ≡ old → TellsAdmitting number block bytes old new

-- no patch of the block is live: it isn't resident any more, and all else is as it was
pub record IsEvicted (run : Execution) (block : ℕ) (old new : Engine Global) : Type 0 where
  pub allowed : why_not_evicted old.cache run block ≡ None
  pub gone : new.cache.blocks ≡ slice_set old.cache.blocks block None
  pub rest : KeepsRest old new
  pub stands : IsEngineOf new run

abbrev pub TellsEvicting : (number : ℤ) (block : ℕ) → (old new : Engine Global) → Type 0
TellsEvicting number block old new = (run : Execution) → IsEngineOf old run → Tells number
    (IsEvicted run block old new)
    (λ cause. (why_not_evicted old.cache run block ≡ Some cause) × (new ≡ old))
