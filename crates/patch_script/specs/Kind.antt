-- How lines of any kind are read. What a kind says is given: of an object with this op, the line, or nothing where it is unreadable.
use Rattle.std.specs.Prelude.{◌≡◌, ℕ, ◌+◌, ◌==◌, ◌∷◌, ◌++◌, [], ◌||◌, List, Bool, Option, Vec, Some, None, Result, Ok, Err, if◌then◌else◌, codes}
use Rattle.std.specs.List.{list_all}
use Rattle.std.specs.Str.{is_utf8}
use Rattle.std.specs.declared.alloc.Global.{Global}
use Rattle.serde_json.specs.Data.{Data}
use Rattle.serde_json.specs.Find.{as_str}
use Rattle.serde_json.specs.Read.{read}
use Rattle.patch_script.specs.declared.scripts.ScriptError.{ScriptError}
use Rattle.patch_script.specs.declared.scripts.ScriptError.TheVariants.{BadLine, OutOfMemory}
use Rattle.patch_script.specs.Field.{◌>>=◌, needed}

-- what an object of a kind says
abbrev pub object_by : {A : Type 0} → (List ℕ → Data → Option A) → Data → Option A
object_by says line = needed as_str (codes "op") line >>= λ op. says op line

-- the JSON value of some bytes
abbrev pub json_of : List ℕ → Option Data
json_of bytes = if is_utf8 bytes then read bytes else None

-- a space, a tab or a carriage return
abbrev pub is_space : ℕ → Bool
is_space b = (b == 32) || (b == 9) || (b == 13)

abbrev pub is_blank : List ℕ → Bool
is_blank bytes = list_all is_space bytes

-- what is on a line of a kind: nothing on a blank one
abbrev pub line_by : {A : Type 0} → (List ℕ → Data → Option A) → List ℕ → Option (Option A)
line_by says bytes = if is_blank bytes then Some None else (json_of bytes >>= object_by says >>= λ line. Some (Some line))

-- the byte x at the front of the first line
abbrev pub onto_first : ℕ → List (List ℕ) → List (List ℕ)
onto_first x [] = (x ∷ []) ∷ []
onto_first x (line ∷ lines) = (x ∷ line) ∷ lines

-- the lines of a text, each without its line feed, which the last one may lack
abbrev pub lines_of : List ℕ → List (List ℕ)
lines_of [] = []
lines_of (x ∷ xs) = if x == 10 then [] ∷ lines_of xs else onto_first x (lines_of xs)

-- Lines with what is on them, the first one's number given: what they ask for, or the number of the first unreadable one.
abbrev pub joined : {A : Type 0} → ℕ → Option (Option A) → Result (List A) ℕ → Result (List A) ℕ
joined number None rest = Err number
joined number (Some None) rest = rest
joined number (Some (Some line)) (Ok lines) = Ok (line ∷ lines)
joined number (Some (Some line)) (Err bad) = Err bad

abbrev pub lines_from : {A : Type 0} → (List ℕ → Data → Option A) → ℕ → List (List ℕ) → Result (List A) ℕ
lines_from says number [] = Ok []
lines_from says number (bytes ∷ rest) = joined number (line_by says bytes) (lines_from says (number + 1) rest)

-- what a script of a kind asks for, or the number of its first unreadable line, counted from 1
abbrev pub lines_by : {A : Type 0} → (List ℕ → Data → Option A) → List ℕ → Result (List A) ℕ
lines_by says text = lines_from says 1 (lines_of text)

-- What the reader of a script answers: what is read, but that memory may run out at any time.
abbrev pub Reads : {A : Type 0} → Result (Vec A Global) ScriptError → Result (List A) ℕ → Type 0
Reads (Ok lines) read = read ≡ Ok lines.items
Reads (Err (BadLine number defect)) read = read ≡ Err number
Reads (Err OutOfMemory) read = Unit {0}

-- the lines read so far, and what the rest of the script gives
abbrev pub behind : {A : Type 0} → List A → Result (List A) ℕ → Result (List A) ℕ
behind front (Ok lines) = Ok (front ++ lines)
behind front (Err number) = Err number
