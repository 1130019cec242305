-- What a reader and a writer have noted of their calls.
use Rattle.std.specs.Prelude.{◌≡◌, ◌≢◌, ℕ, ◌<◌, ◌≤◌, ◌⊎◌, Bool, true, List, length, take, Option, Some, None, Result, Ok, Err}
use Rattle.std.specs.Io.KnownBytes.{Keeps, Consumes, IsAtEnd}
use Rattle.std.specs.IoError.{error_kind}
use Rattle.std.specs.declared.io.Error.{Error}
use Rattle.std.specs.declared.io.ErrorKind.TheVariants.{Interrupted}
use Rattle.patch_replay.specs.declared.endings.Fault.{Fault}
use Rattle.patch_replay.specs.declared.endings.Fault.TheVariants as fault
use Rattle.patch_replay.specs.declared.endings.Status.{Status}
use Rattle.patch_replay.specs.declared.endings.Status.TheVariants.{Failed}
use Rattle.patch_replay.specs.declared.streams.Source.{Source}
use Rattle.patch_replay.specs.declared.streams.Sink.{Sink}
use Rattle.patch_replay.specs.declared.streams.TheConstants.{MAX_READS}

-- a read takes as many of the known bytes as it says, none only at their end or with no room; an interrupted one takes none
abbrev pub Takes : Option (List ℕ) → Option (List ℕ) → Option ℕ → List ℕ → Type 0
Takes old new None bytes = Keeps old new
Takes old new (Some n) bytes = Consumes old new (take n bytes) × (n ≡ 0 → 0 < length bytes → IsAtEnd new)

-- and so does one that fails
abbrev pub GivesBytes : {E : Type 0} → Option (List ℕ) → Option (List ℕ) → Result (Option ℕ) E → List ℕ → Type 0
GivesBytes old new (Ok count) bytes = Takes old new count bytes
GivesBytes old new (Err e) bytes = Keeps old new

-- it is noted that a read has failed, by an error that is no interruption
abbrev pub IsFailure : Option Error → Type 0
IsFailure None = ⊥
IsFailure (Some e) = error_kind e ≢ Interrupted

-- what is noted behind a read: the error of the last one that failed
abbrev pub IsReadNoted : {T E : Type 0} → Option Error → Option Error → Result T E → Type 0
IsReadNoted old new (Ok x) = new ≡ old
IsReadNoted old new (Err e) = IsFailure new

-- what is noted behind a write: a failure, once there was one
abbrev pub noted : {T E : Type 0} → Bool → Result T E → Bool
noted failed (Ok x) = failed
noted failed (Err e) = true

-- a read has failed, or there were as many as there may be
abbrev pub IsGivenUp : {R : Type 0} → Source R → Type 0
IsGivenUp input = IsFailure input.failure ⊎ (MAX_READS ≤ input.reads)

-- What reading ends with is in the note: a fault of the reader just where a read has failed.
abbrev pub ReadingIsNoted : {R T : Type 0} → Source R → Source R → Result T Fault → Type 0
ReadingIsNoted old new (Ok x) = new.failure ≡ old.failure
ReadingIsNoted old new (Err fault.Read) = IsGivenUp new
ReadingIsNoted old new (Err fault.Write) = ⊥
ReadingIsNoted old new (Err fault.OutOfMemory) = new.failure ≡ old.failure

-- What writing ends with is in the note: a fault of the writer just where a write has failed.
abbrev pub WritingIsNoted : {W T : Type 0} → Sink W → Sink W → Result T Fault → Type 0
WritingIsNoted old new (Ok x) = new.failed ≡ old.failed
WritingIsNoted old new (Err fault.Read) = ⊥
WritingIsNoted old new (Err fault.Write) = new.failed ≡ true
WritingIsNoted old new (Err fault.OutOfMemory) = new.failed ≡ old.failed

-- neither has failed since
abbrev pub NoneFailed : {R W : Type 0} → Source R → Source R → Sink W → Sink W → Type 0
NoneFailed old new was is = (new.failure ≡ old.failure) × (is.failed ≡ was.failed)

-- A fault of the reader comes before anything is written, and any other fault is of the writer or of memory.
abbrev pub RunningIsNoted : {R W T : Type 0} → Source R → Source R → Sink W → Sink W → Result T Fault → Type 0
RunningIsNoted old new was is (Ok x) = NoneFailed old new was is
RunningIsNoted old new was is (Err fault.Read) = IsGivenUp new × (is ≡ was)
RunningIsNoted old new was is (Err fault.Write) = is.failed ≡ true
RunningIsNoted old new was is (Err fault.OutOfMemory) = NoneFailed old new was is

-- What was written is behind a flush that was made, and the writer keeps nothing back.
abbrev pub IsFlushed : {W : Type 0} → (W → Type 0) → Sink W → Type 0
IsFlushed KeepsNothing output = (output.flushed ≡ true) × KeepsNothing output.inner

-- a last line is written and not kept back, or a write has failed, as the status then says
abbrev pub IsToldLast : {W : Type 0} → Sink W → Sink W → Status → Status → Type 0 → Type 0 → Type 0
IsToldLast old new wanted status HasText IsOut = ((status ≡ Failed) × (new.failed ≡ true)) ⊎ ((status ≡ wanted) × (new.failed ≡ old.failed) × HasText × IsOut)
