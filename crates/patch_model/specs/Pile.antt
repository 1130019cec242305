-- A block with patches laid on it.
use Rattle.std.specs.Prelude.{ℕ, Bool, ◌+◌, ◌&&◌, nat_lt, nat_le, List, ◌++◌, length, take, drop, fold}
use Rattle.patch_model.specs.Patch.{Patch}

-- the place behind the last byte that the patch changes
abbrev pub end : Patch → ℕ
end p = p.start + length p.bytes

-- the patch changes the byte at this place
abbrev pub covers : Patch → ℕ → Bool
covers p place = nat_le p.start place && nat_lt place (end p)

-- the block with the patch's bytes in its span, and its own elsewhere
abbrev pub lay : List ℕ → Patch → List ℕ
lay block p = take p.start block ++ p.bytes ++ drop (end p) block

-- the block with the patches laid on one after another
abbrev pub pile : List ℕ → List Patch → List ℕ
pile first patches = fold lay first patches
