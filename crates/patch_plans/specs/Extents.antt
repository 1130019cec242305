-- What is kept of the extents of a disk.
use Rattle.std.specs.Prelude.{ℕ, Bool, ◌≡◌, ◌==◌, if◌then◌else◌, List, length, slice_index_or, slice_set, Some, None}
use Rattle.patch_frame.specs.declared.geometries.Geometry.{Geometry}
use Rattle.patch_frame.specs.Geometry.{IsGeometry, largest_pointer}
use Rattle.patch_frame.specs.Pointer.{Fits}
use Rattle.patch_plans.specs.declared.records.Extent.{Extent}
use Rattle.patch_plans.specs.Empties.{passing}

-- how the disk is divided, and of each extent its pointer record, the patch of its last reset, and the last patch of its
-- record, a reset's too
pub record Extents : Type 0 where
  pub geometry : Geometry
  pub each : List Extent

-- an extent of which nothing was written yet
abbrev pub no_extent : Extent
no_extent = record { pointer = record { generation = 0; offset = 0 }; reset = None; point = None }

abbrev pub extent_at : Extents → ℕ → Extent
extent_at s e = slice_index_or s.each e no_extent

abbrev pub generation_at : Extents → ℕ → ℕ
generation_at s e = (extent_at s e).pointer.generation

-- how far it is filled
abbrev pub offset_at : Extents → ℕ → ℕ
offset_at s e = (extent_at s e).pointer.offset

-- nothing is in it
abbrev pub is_empty_in : List Extent → ℕ → Bool
is_empty_in each e = (slice_index_or each e no_extent).pointer.offset == 0

-- the extents whose pointer is 0, rising
abbrev pub empty_extents : Extents → List ℕ
empty_extents s = passing (λ e. offset_at s e == 0) s.geometry.extents

-- the disk is divided as one may be, each of its extents is kept, and no pointer lies past its extent
pub record AreWhole (s : Extents) : Type 0 where
  pub geometry : IsGeometry s.geometry
  pub count : length s.each ≡ s.geometry.extents
  pub fits : (e : ℕ) → Fits (largest_pointer s.geometry.format) (extent_at s e).pointer

-- the extent with this pointer record, made by the patch n
abbrev pub pointed : (n generation offset : ℕ) → Extent → Extent
pointed n generation offset k = record {
  pointer = record { generation = generation; offset = offset };
  reset = if offset == 0 then Some n else k.reset;
  point = Some n;
}

-- the extents after the patch n has changed the pointer record of e
abbrev pub after_point : Extents → (n e generation offset : ℕ) → Extents
after_point s n e generation offset = record s { each = slice_set s.each e (pointed n generation offset (extent_at s e)) }
