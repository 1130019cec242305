-- A run that stops: for what cause, and what it has answered by then.
use Rattle.std.specs.Prelude.{ℕ, ◌≡◌, ◌<◌, ◌++◌, ◌⊎◌, Bool, true, false, List, [], Option, Result, Ok, Err, IfErr, IfSome, length}
use Rattle.std.specs.Io.KnownBytes.{Appends}
use Rattle.patch_device.specs.Device.{HasRisen}
use Rattle.patch_device.specs.declared.devices.Device.{Ghosts}
use Rattle.patch_model.specs.Execution.{Execution}
use Rattle.patch_model.specs.declared.refusals.RefusalKind.TheVariants as kind
use Rattle.patch_model.specs.Refusing.{bare, with_number}
use Rattle.patch_cache.specs.Waves.{IsFlushed}
use Rattle.patch_cache.specs.declared.refusals.FlushRefusal.{FlushRefusal}
use Rattle.patch_cache.specs.declared.refusals.FlushRefusal.TheVariants as flush
use Rattle.patch_recovery.specs.Ledger.{Ledger}
use Rattle.patch_recovery.specs.Reading.{Fault as Test, reading}
use Rattle.patch_replay.specs.declared.endings.Fault.{Fault}
use Rattle.patch_replay.specs.declared.endings.Fault.TheVariants as fault
use Rattle.patch_history.specs.History.{History, IsLegalHistory}
use Rattle.patch_history.specs.Refusals.{open_cause}
use Rattle.patch_history.specs.declared.refusals.OpenFault.{OpenFault}
use Rattle.patch_store.specs.Meaning.{Store}
use Rattle.patch_store.specs.Opening.{at_opening, IsFaultOf}
use Rattle.patch_store.specs.Flushing.{IfRefused}
use Rattle.patch_commands.specs.declared.commands.CommandLine.{CommandLine}
use Rattle.patch_disks.specs.declared.answering.Reclaims.{Reclaims}
use Rattle.patch_disks.specs.declared.endings.Status.{Status}
use Rattle.patch_disks.specs.declared.endings.Status.TheVariants.{Done, Misused, Unreadable, Failed, OutOfMemory}
use Rattle.patch_disks.specs.declared.endings.Stop.{Stop}
use Rattle.patch_disks.specs.declared.endings.Stop.TheVariants as stop
use Rattle.patch_disks.specs.declared.endings.Unread.{Unread}
use Rattle.patch_disks.specs.declared.endings.Unread.TheVariants.{Script, Stopped}
use Rattle.patch_disks.specs.Answering.{AreAnswered}
use Rattle.patch_disks.specs.Ending.{status_of, last_line}
use Rattle.patch_disks.specs.Reading.{HasLines}
use Rattle.patch_disks.specs.Running.{OnceOpened}

-- there was no memory
abbrev pub starved : Stop
starved = stop.Refused (bare kind.OutOfMemory)

-- what a fault of the reader or the writer comes to
abbrev pub stop_of : Fault → Stop
stop_of fault.Read = stop.Read
stop_of fault.Write = stop.Write
stop_of fault.OutOfMemory = starved

-- What a flush that was refused comes to. A sync that failed is a fault of the disk.
abbrev pub flush_stop : FlushRefusal → Stop
flush_stop (flush.DeviceGaveUp block) = stop.Refused (with_number kind.DeviceGaveUp block)
flush_stop flush.SyncFailed = stop.Refused (bare kind.Disk)
flush_stop flush.OutOfMemory = starved

-- there was no memory, or the command fails for this cause
abbrev pub IsStop : Stop → Type 0 → Type 0
IsStop why Cause = (why ≡ starved) ⊎ ((status_of why ≡ Failed) × Cause)

-- and so where no line was read, unless the script is refused
abbrev pub IsUnread : Unread → Type 0 → Type 0
IsUnread (Script why) Cause = Unit {0}
IsUnread (Stopped why) Cause = IsStop why Cause

-- no disk has so many blocks, or a test refuses them
abbrev pub HoldNoStore : List (List ℕ) → Type 0
HoldNoStore blocks = (length blocks ≡ 0) ⊎ (4096 < length blocks) ⊎ ((why : Test) × (reading blocks ≡ Err why))

-- there was no memory, or the device had a fault, which is told as one of the disk
abbrev pub IsOfDisk : (faults faults_now : ℕ) → Stop → Type 0
IsOfDisk faults faults_now why = (why ≡ starved) ⊎ ((why ≡ stop.Refused (bare kind.Disk)) × HasRisen faults faults_now)

-- there was no memory, or no disk has so many blocks, which is told as their count
abbrev pub IsOfCount : List (List ℕ) → Stop → Type 0
IsOfCount blocks why = (why ≡ starved) ⊎ ((why ≡ stop.Refused (bare kind.FileSize)) × ((length blocks ≡ 0) ⊎ (4096 < length blocks)))

-- so it is, or the first test that refuses the blocks is told
abbrev pub TellsTest : List (List ℕ) → Stop → Type 0
TellsTest blocks why = IsOfCount blocks why ⊎ ((fault : OpenFault) × (why ≡ stop.Refused (open_cause fault)) × IsFaultOf blocks fault)

-- why a store isn't opened, by its kind
abbrev pub TellsWhyNotOpened : (faults faults_now : ℕ) → List (List ℕ) → Stop → Type 0
TellsWhyNotOpened faults faults_now contents why = IsOfDisk faults faults_now why ⊎ TellsTest contents why

-- And why it isn't brought to the device: there was no memory, or the flush was refused, which is told, with the block that was given up, or
-- all was written and the end of it had a fault, which is told as one of the disk.
abbrev pub TellsWhyNotSaved : {D : Type 0} → Ghosts D → Execution → (before now : D) → Stop → Type 0
TellsWhyNotSaved g run before now why =
    (why ≡ starved)
    ⊎ ((refusal : FlushRefusal) × (why ≡ flush_stop refusal) × IfRefused {T = Unit {0}} g (Err refusal) run before now)
    ⊎ ((why ≡ stop.Refused (bare kind.Disk)) × HasRisen (g.fault_count before) (g.fault_count now) × IsFlushed run)

-- why a store isn't opened: a fault of the device, or what is on it
abbrev pub IsNotOpened : (faults faults_now : ℕ) (contents : List (List ℕ)) → Type 0
IsNotOpened faults faults_now contents = HasRisen faults faults_now ⊎ HoldNoStore contents

-- why lines are not all answered: that, or the writer
abbrev pub IsBroken : (failed : Bool) (faults faults_now : ℕ) (contents : List (List ℕ)) → Type 0
IsBroken failed faults faults_now contents = (failed ≡ true) ⊎ IsNotOpened faults faults_now contents

-- where the lines are not all answered, it is told why
abbrev pub TellsWhyItStops : {T : Type 0} → Result T Stop → (failed : Bool) → (faults faults_now : ℕ) → (contents : List (List ℕ)) → Type 0
TellsWhyItStops result failed faults faults_now contents = IfErr result (λ why. IsStop why (IsBroken failed faults faults_now contents))

-- A run that fails has this cause. No run is told as misused.
abbrev pub IfFailed : Status → Type 0 → Type 0
IfFailed Done Cause = Unit {0}
IfFailed Misused Cause = ⊥
IfFailed (Unreadable why) Cause = Unit {0}
IfFailed Failed Cause = Cause
IfFailed OutOfMemory Cause = Unit {0}

-- this is said of a run that stops
abbrev pub IfStopped : Status → Type 0 → Type 0
IfStopped Done Said = Unit {0}
IfStopped Misused Said = Said
IfStopped (Unreadable why) Said = Unit {0}
IfStopped Failed Said = Said
IfStopped OutOfMemory Said = Said

-- some first lines were answered, by calls of one legal history over what the blocks are read as
pub record AnswersSome (r : Reclaims) (lines : List CommandLine) (contents : List (List ℕ)) (text : List ℕ) : Type 0 where
  pub first : List CommandLine
  pub others : List CommandLine
  pub lines_are : first ++ others ≡ lines
  pub ledger : Ledger
  pub reads : reading contents ≡ Ok ledger
  pub last : History
  pub answers : AreAnswered r (at_opening contents ledger) first text last
  pub legal : IsLegalHistory last

-- none was answered, or some first ones were; the text of the answers was written
pub record HasWrittenSome (r : Reclaims) (lines : List CommandLine) (old new : Option (List ℕ)) (contents : List (List ℕ)) : Type 0 where
  pub text : List ℕ
  pub answered : (text ≡ []) ⊎ AnswersSome r lines contents text
  pub written : Appends old new text

-- A run that stops has written the answers of some first lines of the script, or of none, and behind them why it stops.
pub record HasStopped (r : Reclaims) (input old new : Option (List ℕ)) (contents : List (List ℕ)) (status : Status) : Type 0 where
  pub text : List ℕ
  pub answered : (text ≡ []) ⊎ IfSome input (λ script. (lines : List CommandLine) × HasLines script lines × AnswersSome r lines contents text)
  pub why : Stop
  pub ends : status_of why ≡ status
  pub written : Appends old new (text ++ last_line why)

-- a run that stops so has told what it has answered, and why
abbrev pub TellsWhatItAnswered : Reclaims → (input old new : Option (List ℕ)) → (contents : List (List ℕ)) → Status → Type 0
TellsWhatItAnswered r input old new contents status = IfStopped status (HasStopped r input old new contents status)

-- On the way.

-- behind the history some first lines were answered, and their text written
pub record HasComeSome (r : Reclaims) (h : History) (lines : List CommandLine) (old new : Option (List ℕ)) : Type 0 where
  pub first : List CommandLine
  pub others : List CommandLine
  pub lines_are : first ++ others ≡ lines
  pub text : List ℕ
  pub written : Appends old new text
  pub last : History
  pub answers : AreAnswered r h first text last
  pub legal : IsLegalHistory last

-- where the store was opened on the blocks, and the writer is well, some first lines were answered, and their text written
abbrev pub RunsSomeWay : Reclaims → Store → (blocks : List (List ℕ)) → (failed : Bool) → List CommandLine → (old new : Option (List ℕ)) → Type 0
RunsSomeWay r store blocks failed lines old new = OnceOpened store blocks (λ contents. failed ≡ false → HasWrittenSome r lines old new contents)
