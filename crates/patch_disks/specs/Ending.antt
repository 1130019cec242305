-- How a command on a file ends, and its last line where it fails.
use Rattle.std.specs.Prelude.{◌≡◌, ◌⊎◌, ℕ, ◌++◌, ◌∷◌, [], List, Option, Result, Ok, Err, codes, true}
use Rattle.std.specs.Io.KnownBytes.{Appends}
use Rattle.patch_model.specs.declared.refusals.Refusal.{Refusal}
use Rattle.patch_model.specs.declared.refusals.RefusalKind.{RefusalKind}
use Rattle.patch_model.specs.declared.refusals.RefusalKind.TheVariants as kind
use Rattle.patch_model.specs.Refusal.{name_of}
use Rattle.patch_script.specs.Answer.{behind_space}
use Rattle.patch_replay.specs.Replay.{bad_line, too_long_text, unread_text, memory_text}
use Rattle.patch_replay.specs.Streams.{IsFlushed}
use Rattle.patch_replay.specs.declared.endings.BadScript.{BadScript}
use Rattle.patch_replay.specs.declared.endings.BadScript.TheVariants.{TooLong, BadLine}
use Rattle.patch_replay.specs.declared.streams.Sink.{Sink}
use Rattle.patch_disks.specs.declared.endings.Status.{Status}
use Rattle.patch_disks.specs.declared.endings.Status.TheVariants.{Done, Misused, Unreadable, Failed, OutOfMemory}
use Rattle.patch_disks.specs.declared.endings.Stop.{Stop}
use Rattle.patch_disks.specs.declared.endings.Stop.TheVariants as stop

-- the exit status of the program
abbrev pub exit_of : Status → ℕ
exit_of Done = 0
exit_of Misused = 2
exit_of (Unreadable why) = 3
exit_of Failed = 4
exit_of OutOfMemory = 5

-- the script was read, if there is one
abbrev pub IsRead : Status → Type 0
IsRead Done = Unit {0}
IsRead Misused = Unit {0}
IsRead (Unreadable why) = ⊥
IsRead Failed = Unit {0}
IsRead OutOfMemory = Unit {0}

-- how a command ends that is stopped by a refusal of this kind
abbrev pub status_for : RefusalKind → Status
status_for kind.Geometry = Misused
status_for kind.OutOfMemory = OutOfMemory
status_for kind.NoThread = OutOfMemory
status_for _ = Failed

abbrev pub status_of : Stop → Status
status_of stop.Read = Failed
status_of stop.Write = Failed
status_of (stop.Refused r) = status_for r.kind

-- a refusal that ends a command, and its line
abbrev pub fault_words : Refusal → List ℕ
fault_words r = codes "fault " ++ name_of r.kind ++ behind_space r.number

abbrev pub fault_text : Refusal → List ℕ
fault_text r = fault_words r ++ 10 ∷ []

-- the one line of a command whose script isn't run
abbrev pub script_text : BadScript → List ℕ
script_text TooLong = too_long_text
script_text (BadLine line defect) = bad_line line

-- the last line of a command that stops; where its output fails there is none
abbrev pub last_line : Stop → List ℕ
last_line stop.Read = unread_text
last_line stop.Write = []
last_line (stop.Refused r) = fault_text r

-- This text is written and nothing is kept back, and the command ends as it should; or a write has failed, as the status then says.
abbrev pub IsTold : {W : Type 0} → (W → Option (List ℕ)) → (W → Type 0) → (old new : Sink W) → List ℕ → (wanted status : Status) → Type 0
IsTold contents KeepsNothing old new text wanted status =
    ((status ≡ Failed) × (new.failed ≡ true))
    ⊎ ((status ≡ wanted) × (new.failed ≡ old.failed) × Appends (contents old.inner) (contents new.inner) text × IsFlushed KeepsNothing new)

-- the text tells why the command ends; or, where there was no memory for it, that there was none
abbrev pub IsToldOrStarved : {W : Type 0} → (W → Option (List ℕ)) → (W → Type 0) → (old new : Sink W) → List ℕ → (wanted status : Status) → Type 0
IsToldOrStarved contents KeepsNothing old new text wanted status =
    IsTold contents KeepsNothing old new text wanted status ⊎ IsTold contents KeepsNothing old new memory_text OutOfMemory status

-- how a command is concluded: one that is done writes nothing more, and neither does one whose output has failed
abbrev pub IsConcluded : {W T : Type 0} → (W → Option (List ℕ)) → (W → Type 0) → (old new : Sink W) → Result T Stop → Status → Type 0
IsConcluded contents KeepsNothing old new (Ok done) status = IsTold contents KeepsNothing old new [] Done status
IsConcluded contents KeepsNothing old new (Err stop.Write) status = (status ≡ Failed) × (new ≡ old)
IsConcluded contents KeepsNothing old new (Err stop.Read) status = IsToldOrStarved contents KeepsNothing old new unread_text Failed status
IsConcluded contents KeepsNothing old new (Err (stop.Refused r)) status =
    IsToldOrStarved contents KeepsNothing old new (fault_text r) (status_for r.kind) status

-- a command is done only where nothing stopped it, and then no more is written
abbrev pub IsDoneBehind : {T : Type 0} → Result T Stop → (old new : Option (List ℕ)) → Type 0
IsDoneBehind (Ok done) old new = Appends old new []
IsDoneBehind (Err stop) old new = ⊥
