-- What an append and a reset make: changes, and the patches that each names.
use Rattle.std.specs.Prelude.{ℕ, ◌+◌, ◌-◌, ◌*◌, ◌/◌, min, max, List, [], ◌∷◌, ◌++◌, length, map, slice_range, option_to_list}
use Rattle.std.specs.List.{range_with_len}
use Rattle.patch_model.specs.declared.blocks.TheConstants.{BLOCK}
use Rattle.patch_recovery.specs.Change.{Change, Data, Point, Made}
use Rattle.patch_plans.specs.Extents.{Extents, extent_at, generation_at, offset_at}

-- how many blocks a write of so many bytes touches, of which there is at least one
abbrev pub touched : (offset len : ℕ) → ℕ
touched offset len = (offset + len - 1) / BLOCK - offset / BLOCK + 1

-- where the part in the k-th block touched begins, and where it ends
abbrev pub part_start : (offset k : ℕ) → ℕ
part_start offset k = max offset ((offset / BLOCK + k) * BLOCK)

abbrev pub part_end : (offset len k : ℕ) → ℕ
part_end offset len k = min (offset + len) ((offset / BLOCK + k + 1) * BLOCK)

-- the part of the bytes that goes into the k-th block touched
abbrev pub part : (extent offset : ℕ) (bytes : List ℕ) → ℕ → Change
part extent offset bytes k =
    Data extent (part_start offset k)
    (slice_range bytes (part_start offset k - offset) (part_end offset (length bytes) k - offset))

-- the parts in the first so many of these blocks, rising, behind the patches of these numbers
abbrev pub parts : (extent offset : ℕ) (bytes names : List ℕ) (count : ℕ) → List Made
parts extent offset bytes names count =
    map (λ k. record { change = part extent offset bytes k; after = names }) (range_with_len 0 count)

-- what the bytes come after: what the caller names, and the extent's last reset
abbrev pub names_behind : Extents → (extent : ℕ) (after : List ℕ) → List ℕ
names_behind s extent after = after ++ option_to_list (extent_at s extent).reset

-- all parts, and then the pointer record behind all of them; n is the number of the first patch
abbrev pub append_plan : Extents → (n extent : ℕ) (bytes after : List ℕ) → List Made
append_plan s n extent bytes after =
    parts extent (offset_at s extent) bytes (names_behind s extent after) (touched (offset_at s extent) (length bytes))
    ++ record {
      change = Point extent (generation_at s extent) (offset_at s extent + length bytes);
      after = range_with_len n (touched (offset_at s extent) (length bytes));
    }
    ∷ []

-- one patch, behind what the caller names: the next generation, filled up to 0
abbrev pub reset_plan : Extents → (extent : ℕ) (after : List ℕ) → List Made
reset_plan s extent after = record { change = Point extent (generation_at s extent + 1) 0; after = after } ∷ []
