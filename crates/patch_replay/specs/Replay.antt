-- The text of a replay.
use Rattle.std.specs.Prelude.{◌≡◌, ℕ, ◌+◌, ◌++◌, ◌∷◌, [], List, Option, Some, None, Result, Ok, Err, codes, decimal, Bool, true, false, length, ◌<◌, Vec, IfSome}
use Rattle.std.specs.Io.KnownBytes.{Appends}
use Rattle.std.specs.declared.alloc.Global.{Global}
use Rattle.patch_script.specs.declared.answers.Answer.{Answer}
use Rattle.patch_script.specs.declared.forms.Line.{Line}
use Rattle.patch_script.specs.declared.scripts.TheConstants.{MAX_BYTES}
use Rattle.patch_script.specs.Answer.{answer_line}
use Rattle.patch_script.specs.Script.{script_of, is_too_long}
use Rattle.patch_replay.specs.Answering.{IsAnswered, AreAnswers, HasComeTo}
use Rattle.patch_replay.specs.World.{World}
use Rattle.patch_replay.specs.declared.endings.BadScript.TheVariants.{TooLong, BadLine}
use Rattle.patch_replay.specs.declared.endings.Fault.{Fault}
use Rattle.patch_replay.specs.declared.endings.Fault.TheVariants as fault
use Rattle.patch_replay.specs.declared.endings.Status.{Status}
use Rattle.patch_replay.specs.declared.endings.Status.TheVariants.{Done, Unreadable, Failed, OutOfMemory}

-- a line of text for each answer
abbrev pub answers_text : List Answer → List ℕ
answers_text [] = []
answers_text (answer ∷ answers) = answer_line answer ++ answers_text answers

-- the text tells the right answer to the line, and the core has come to the world after it
pub record IsLineTold (w : World) (line : Line) (text : List ℕ) (IsAt : World → Type 0) : Type 0 where
  pub answer : Answer
  pub is : text ≡ answer_line answer
  pub comes : HasComeTo (IsAnswered w line answer) IsAt

-- the text tells the answers of these lines, each of them right
pub record IsTextOf (w : World) (lines : List Line) (text : List ℕ) : Type 0 where
  pub answers : List Answer
  pub last : World
  pub right : AreAnswers w lines answers last
  pub is : text ≡ answers_text answers

abbrev pub bad_line : ℕ → List ℕ
bad_line number = codes "bad line " ++ decimal number ++ 10 ∷ []

abbrev pub IsScriptText : World → Result (List Line) ℕ → List ℕ → Type 0
IsScriptText w (Ok lines) text = IsTextOf w lines text
IsScriptText w (Err number) text = text ≡ bad_line number

-- a replay ended at an unreadable line of this number; what is wrong with it is left open
abbrev pub IsBadLine : ℕ → Status → Type 0
IsBadLine number Done = ⊥
IsBadLine number (Unreadable TooLong) = ⊥
IsBadLine number (Unreadable (BadLine line defect)) = line ≡ number
IsBadLine number Failed = ⊥
IsBadLine number OutOfMemory = ⊥

abbrev pub IsScriptStatus : Result (List Line) ℕ → Status → Type 0
IsScriptStatus (Ok lines) status = status ≡ Done
IsScriptStatus (Err number) status = IsBadLine number status

abbrev pub too_long_text : List ℕ
too_long_text = codes "fault ScriptTooLong" ++ 10 ∷ []

-- what a replay of a script writes
unfoldable pub IsReplayText : World → List ℕ → List ℕ → Type 0
IsReplayText w script text = elim (is_too_long script) [ true ↦ text ≡ too_long_text | false ↦ IsScriptText w (script_of script) text ]

-- and how it ends
unfoldable pub IsReplayStatus : List ℕ → Status → Type 0
IsReplayStatus script status =
    elim (is_too_long script) [ true ↦ status ≡ Unreadable TooLong | false ↦ IsScriptStatus (script_of script) status ]

-- What was read of an input, and whether more than a script may have; rest is still to come.
abbrev pub HasRead : Option (List ℕ) → Option (List ℕ) → Bool → List ℕ → Type 0
HasRead None now over script = Unit {0}
HasRead (Some input) None over script = ⊥
HasRead (Some input) (Some rest) true script = MAX_BYTES + length rest < length input
HasRead (Some input) (Some rest) false script = script ++ rest ≡ input

-- what was found is the input, or None for one that is too long
abbrev pub IsInput : Option (Vec ℕ Global) → List ℕ → Type 0
IsInput None input = MAX_BYTES < length input
IsInput (Some script) input = script.items ≡ input

-- how a replay of this script ended, and what it wrote
pub record Replayed (w : World) (script : List ℕ) (status : Status) (old new : Option (List ℕ)) : Type 0 where
  pub ended : IsReplayStatus script status
  pub text : List ℕ
  pub is : IsReplayText w script text
  pub written : Appends old new text

-- the same of what a reader has, where that is known
abbrev pub HasReplayed : World → Option (List ℕ) → Status → (old new : Option (List ℕ)) → Type 0
HasReplayed w input status old new = IfSome input (λ script. Replayed w script status old new)

-- the whole script was answered, or refused
abbrev pub IsEnd : Status → Type 0
IsEnd Done = Unit {0}
IsEnd (Unreadable why) = Unit {0}
IsEnd Failed = ⊥
IsEnd OutOfMemory = ⊥

-- the exit status of the program
abbrev pub exit_of : Status → ℕ
exit_of Done = 0
exit_of (Unreadable why) = 3
exit_of Failed = 4
exit_of OutOfMemory = 5

-- the answers of all lines were written
pub record HasWrittenAll (w : World) (lines : List Line) (old new : Option (List ℕ)) : Type 0 where
  pub text : List ℕ
  pub is : IsTextOf w lines text
  pub written : Appends old new text

-- the answers of some first lines were written, and a last text
pub record HasBegun (w : World) (lines : List Line) (last : List ℕ) (old new : Option (List ℕ)) : Type 0 where
  pub first : List Line
  pub rest : List Line
  pub split : first ++ rest ≡ lines
  pub text : List ℕ
  pub is : IsTextOf w first text
  pub written : Appends old new (text ++ last)

-- where memory ran out, the answers of some first lines are written
abbrev pub HasAnswered : Fault → World → List Line → Option (List ℕ) → Option (List ℕ) → Type 0
HasAnswered fault.Read w lines old new = Unit {0}
HasAnswered fault.Write w lines old new = Unit {0}
HasAnswered fault.OutOfMemory w lines old new = HasBegun w lines [] old new

-- the lines that are answered: none of an unreadable script
abbrev pub lines_in : Result (List Line) ℕ → List Line
lines_in (Ok lines) = lines
lines_in (Err number) = []

abbrev pub Stopped : Fault → World → List ℕ → Option (List ℕ) → Option (List ℕ) → Type 0
Stopped fault w script old new = HasAnswered fault w (lines_in (script_of script)) old new

abbrev pub HasStopped : Fault → World → Option (List ℕ) → (old new : Option (List ℕ)) → Type 0
HasStopped fault w input old new = IfSome input (λ script. Stopped fault w script old new)

abbrev pub unread_text : List ℕ
unread_text = codes "fault Read" ++ 10 ∷ []

abbrev pub memory_text : List ℕ
memory_text = codes "fault OutOfMemory" ++ 10 ∷ []

-- memory ran out: the answers of some first lines, and a last line that tells it
abbrev pub Starved : World → List ℕ → Option (List ℕ) → Option (List ℕ) → Type 0
Starved w script old new = HasBegun w (lines_in (script_of script)) memory_text old new

abbrev pub HasStarved : World → Option (List ℕ) → (old new : Option (List ℕ)) → Type 0
HasStarved w input old new = IfSome input (λ script. Starved w script old new)
