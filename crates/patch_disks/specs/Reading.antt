-- Which scripts are run.
use Rattle.std.specs.Prelude.{◌≡◌, ℕ, List, Option, Some, None, true, false, Vec, Result, Ok, Err, IfSome}
use Rattle.std.specs.Io.KnownBytes.{Appends}
use Rattle.std.specs.declared.alloc.Global.{Global}
use Rattle.patch_script.specs.Script.{is_too_long}
use Rattle.patch_commands.specs.Command.{commands_of}
use Rattle.patch_commands.specs.Shared.{shared_commands}
use Rattle.patch_commands.specs.declared.commands.CommandLine.{CommandLine}
use Rattle.patch_replay.specs.declared.endings.BadScript.{BadScript}
use Rattle.patch_replay.specs.declared.endings.BadScript.TheVariants.{TooLong, BadLine}
use Rattle.patch_disks.specs.Ending.{script_text}
use Rattle.patch_disks.specs.declared.endings.Status.{Status}
use Rattle.patch_disks.specs.declared.endings.Status.TheVariants.{Done, Misused, Unreadable, Failed, OutOfMemory}
use Rattle.patch_disks.specs.declared.endings.Unread.{Unread}
use Rattle.patch_disks.specs.declared.endings.Unread.TheVariants.{Script, Stopped}

-- what a script asks for, or the number of its first unreadable line: of so many writers on threads where there are any
abbrev pub commands_for : (writers : Option ℕ) → List ℕ → Result (List CommandLine) ℕ
commands_for None text = commands_of text
commands_for (Some writers) text = shared_commands writers text

-- Below, `read` is how the script is read.

-- the script is within the limits, and these are its lines
abbrev pub HasLinesBy : (read : List ℕ → Result (List CommandLine) ℕ) → List ℕ → List CommandLine → Type 0
HasLinesBy read text lines = (is_too_long text ≡ false) × (read text ≡ Ok lines)

abbrev pub HasLines : List ℕ → List CommandLine → Type 0
HasLines text lines = HasLinesBy commands_of text lines

-- the script passes a limit, or this is the number of its first unreadable line; what is wrong with it is left open
abbrev pub IsRefused : (read : List ℕ → Result (List CommandLine) ℕ) → List ℕ → BadScript → Type 0
IsRefused read text TooLong = is_too_long text ≡ true
IsRefused read text (BadLine line defect) = (is_too_long text ≡ false) × (read text ≡ Err line)

-- what is read of a script
abbrev pub IsParsed : (read : List ℕ → Result (List CommandLine) ℕ) → List ℕ → Result (Vec CommandLine Global) Unread → Type 0
IsParsed read text (Ok lines) = HasLinesBy read text lines.items
IsParsed read text (Err (Script why)) = IsRefused read text why
IsParsed read text (Err (Stopped stop)) = Unit {0}

-- A script that isn't run is refused, and the one line that is written says so.
pub record IsNotRun (read : List ℕ → Result (List CommandLine) ℕ) (why : BadScript) (input old new : Option (List ℕ)) : Type 0 where
  pub refused : IfSome input (λ text. IsRefused read text why)
  pub told : Appends old new (script_text why)

-- how a run ended, by its script: one that is done had lines to be answered
abbrev pub IsRunOf : (read : List ℕ → Result (List CommandLine) ℕ) → (input old new : Option (List ℕ)) → Status → Type 0
IsRunOf read input old new Done = IfSome input (λ text. (lines : List CommandLine) × HasLinesBy read text lines)
IsRunOf read input old new (Unreadable why) = IsNotRun read why input old new
IsRunOf read input old new Misused = Unit {0}
IsRunOf read input old new Failed = Unit {0}
IsRunOf read input old new OutOfMemory = Unit {0}
