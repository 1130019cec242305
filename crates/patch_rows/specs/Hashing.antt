-- How a number is hashed.
use Rattle.std.specs.Prelude.{ℕ, ◌*◌, ◌%◌, ◌^◌, List, length, nat_eq, if◌then◌else◌}
use Rattle.std.specs.Int.{w32, from_le_bytes}
use Rattle.patch_rows.specs.declared.hashing.InARow.{InARow}

-- the number whose bytes these are, the lowest first
abbrev pub fed : InARow → List ℕ → InARow
fed h bytes = if nat_eq (length bytes) 4 then record { 0 = from_le_bytes w32 bytes } else h

-- numbers in a row far apart: a product with the golden ratio
abbrev pub spread : InARow → ℕ
spread h = (h.0 * 0x9E3779B1) % 2 ^ 32
