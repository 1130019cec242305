-- Pointer records as a pointer block has them.
use Rattle.std.specs.Prelude.{ℕ, Bool, ◌≡◌, ◌+◌, ◌<◌, ◌||◌, not, List, length, slice_index_or, slice_range, None, Ok, is_err}
use Rattle.std.specs.List.{list_any, range_with_len}
use Rattle.patch_frame.specs.declared.geometries.Geometry.{Geometry}
use Rattle.patch_frame.specs.Field.{are_zeros}
use Rattle.patch_frame.specs.Geometry.{largest_pointer, pointer_start}
use Rattle.patch_frame.specs.Pointer.{Fits, pointer_at}
use Rattle.patch_plans.specs.declared.records.Extent.{Extent}
use Rattle.patch_plans.specs.Extents.{no_extent}

-- the bytes of an extent's record
abbrev pub record_in : List ℕ → ℕ → List ℕ
record_in block e = slice_range block (pointer_start e) (pointer_start e + 8)

-- the extent is as its record says, and no patch of it is known
pub record IsRecord (g : Geometry) (block : List ℕ) (e : ℕ) (k : Extent) : Type 0 where
  pub read : pointer_at (largest_pointer g.format) (record_in block e) ≡ Ok k.pointer
  pub fits : Fits (largest_pointer g.format) k.pointer
  pub no_reset : k.reset ≡ None
  pub no_point : k.point ≡ None

-- and so are the first so many
pub record AreRecords (g : Geometry) (block : List ℕ) (each : List Extent) (count : ℕ) : Type 0 where
  pub counted : length each ≡ count
  pub records : (e : ℕ) → e < count → IsRecord g block e (slice_index_or each e no_extent)

abbrev pub is_bad_record : Geometry → List ℕ → ℕ → Bool
is_bad_record g block e = is_err (pointer_at (largest_pointer g.format) (record_in block e))

-- one of the records can't be read
abbrev pub has_bad_record : Geometry → List ℕ → Bool
has_bad_record g block = list_any (is_bad_record g block) (range_with_len 0 g.extents)

-- or a byte behind the last one isn't zero
abbrev pub has_bad_pointers : Geometry → List ℕ → Bool
has_bad_pointers g block = has_bad_record g block || not (are_zeros (slice_range block (pointer_start g.extents) 4096))
