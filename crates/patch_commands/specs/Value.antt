-- The value that a line puts.
use Rattle.std.specs.Prelude.{ℕ, List, Bool, length, nat_le}
use Rattle.std.specs.List.{repeat}
use Rattle.patch_commands.specs.declared.commands.TheConstants.{MAX_VALUE_TEXT}

-- a piece, so many times over
abbrev pub value_of : List ℕ → ℕ → List ℕ
value_of piece times = repeat times piece

-- whether it has no more bytes than a line's may
abbrev pub is_short : List ℕ → ℕ → Bool
is_short piece times = nat_le (length (value_of piece times)) MAX_VALUE_TEXT
