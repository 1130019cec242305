-- What a replay script asks for, and when a script is too long.
use Rattle.std.specs.Prelude.{ℕ, List, length, nat_lt, ◌||◌, Bool, Result}
use Rattle.patch_script.specs.declared.forms.Line.{Line}
use Rattle.patch_script.specs.declared.scripts.TheConstants.{MAX_BYTES, MAX_LINES}
use Rattle.patch_script.specs.Form.{op_line}
use Rattle.patch_script.specs.Kind.{lines_of, lines_by}

-- what a script asks for, or the number of its first unreadable line, counted from 1
abbrev pub script_of : List ℕ → Result (List Line) ℕ
script_of text = lines_by op_line text

-- whether a script passes a limit
abbrev pub is_too_long : List ℕ → Bool
is_too_long text = nat_lt MAX_BYTES (length text) || nat_lt MAX_LINES (length (lines_of text))
