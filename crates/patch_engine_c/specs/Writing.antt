-- What is told of writes: which may begin, what goes to the disk, and how they end.
use Rattle.std.specs.Prelude.{ℕ, ℤ, pos, ◌≡◌, ◌++◌, ◌⊎◌, nat_lt, MatchBool, List, length, drop, None, Some}
use Rattle.std.specs.Global.{Global}
use Rattle.patch_model.specs.declared.blocks.TheConstants.{BLOCK}
use Rattle.patch_model.specs.declared.refusals.RefusalKind.TheVariants as kind
use Rattle.patch_model.specs.Execution.{Execution, extended}
use Rattle.patch_model.specs.History.{history_of, image}
use Rattle.patch_model.specs.Refusal.{code_of}
use Rattle.patch_model.specs.Refusing.{bare, why_not_sent}
use Rattle.patch_model.specs.State.{entries_of, flying_of, numbers_of}
use Rattle.patch_model.specs.Step.{Complete}
use Rattle.patch_cache.specs.Flights.{IsLeastReady}
use Rattle.patch_cache.specs.Paging.{if_resident}
use Rattle.patch_cache.specs.Refusals.{IsCause}
use Rattle.patch_engine.specs.Meaning.{IsEngineOf, IsAsBefore, IsBegun, IsOut, IsNotOut}
use Rattle.patch_engine.specs.declared.engines.Engine.{Engine}
use Rattle.patch_handles.specs.Answering.{number_of}
use Rattle.patch_handles.specs.Copying.{copied, answer_copying}
use Rattle.patch_engine_c.specs.Answering.{Tells, too_small}

-- the least block of which a write can begin then stands where a number did before; or there is none
abbrev pub TellsNext : (number : ℤ) → (before now : ℕ) → Engine Global → Type 0
TellsNext number before now engine = (run : Execution) → IsEngineOf engine run → Tells number
    (IsLeastReady run (Some now))
    (λ cause. (cause ≡ bare kind.NothingReady) × IsLeastReady run None × (now ≡ before))

-- a write is begun: its number, and a buffer with its image at the front
pub record IsSent (run : Execution) (block number : ℕ) (into into_now : List ℕ) (new : Engine Global) : Type 0 where
  pub bytes : List ℕ
  pub begun : IsBegun run block number bytes new
  pub copied : into_now ≡ bytes ++ drop BLOCK into

-- nothing is told, and the engine may have taken memory
pub record IsUnsent (before now : ℕ) (into into_now : List ℕ) (old new : Engine Global) : Type 0 where
  pub number_is : now ≡ before
  pub buffer_is : into_now ≡ into
  pub engine_is : IsAsBefore old new

-- the image has no room, which goes before all else; or it is begun; or it is refused, for this cause or for want of memory
abbrev pub TellsSending : (number : ℤ) → (block : ℕ) → (before now : ℕ) (into into_now : List ℕ) → (old new : Engine Global) → Type 0
TellsSending number block before now into into_now old new = MatchBool (nat_lt (length into) BLOCK)
    ((number ≡ too_small) × (new ≡ old) × (now ≡ before) × (into_now ≡ into))
    ((run : Execution) → IsEngineOf old run → Tells number
    (IsSent run block now into into_now new)
    (λ cause. IsCause (if_resident old.cache block (why_not_sent run block)) cause × IsUnsent before now into into_now old new))

-- a buffer has these at its front, or they don't fit it
pub record HasCopied (number : ℤ) (bytes into into_now : List ℕ) : Type 0 where
  pub number_is : number ≡ number_of (answer_copying bytes into)
  pub buffer_is : into_now ≡ copied bytes into

-- no such write is out
pub record IsStranger (run : Execution) (number : ℤ) (block sequence : ℕ) : Type 0 where
  pub number_is : number ≡ pos (code_of kind.Stranger)
  pub none : IsNotOut run block sequence

-- the image of a write that is out
abbrev pub TellsImage : (number : ℤ) → (block sequence : ℕ) → (into into_now : List ℕ) → Engine Global → Type 0
TellsImage number block sequence into into_now engine = (run : Execution) → IsEngineOf engine run →
    (IsOut run block sequence × HasCopied number (image (history_of run block)) into into_now)
    ⊎ (IsStranger run number block sequence × (into_now ≡ into))

-- the numbers of its patches, and how many they are
abbrev pub flight_numbers : Execution → (block : ℕ) → List ℕ
flight_numbers run block = numbers_of (flying_of (entries_of run) block)

abbrev pub TellsFlight : (number : ℤ) → (block sequence : ℕ) → (into into_now : List ℕ) (count count_now : ℕ) → Engine Global → Type 0
TellsFlight number block sequence into into_now count count_now engine = (run : Execution) → IsEngineOf engine run →
    (IsOut run block sequence × HasCopied number (flight_numbers run block) into into_now × (count_now ≡ length (flight_numbers run block)))
    ⊎ (IsStranger run number block sequence × (into_now ≡ into) × (count_now ≡ count))

-- a write ends that is out
abbrev pub TellsCompleting : (number : ℤ) → (block sequence : ℕ) → (old new : Engine Global) → Type 0
TellsCompleting number block sequence old new = (run : Execution) → IsEngineOf old run → Tells number
    (IsOut run block sequence × IsEngineOf new (extended run (Complete block)))
    (λ cause. (cause ≡ bare kind.Stranger) × IsNotOut run block sequence × (new ≡ old))
