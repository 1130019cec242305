-- The superblock: mark, version, and how the disk is divided.
use Rattle.std.specs.Prelude.{ℕ, Bool, ◌≡◌, not, ◌||◌, ◌==◌, nat_lt, if◌then◌else◌, List, [], ◌∷◌, ◌++◌, take, drop, slice_range, codes, Result}
use Rattle.std.specs.Int.{w32, to_be_bytes, from_be_bytes}
use Rattle.std.specs.Str.{bytes_eq}
use Rattle.patch_frame.specs.declared.faults.FrameFault.{FrameFault}
use Rattle.patch_frame.specs.declared.faults.FrameFault.TheVariants.{BadMagic, BadValue, NotZero}
use Rattle.patch_frame.specs.declared.geometries.Format.{Format}
use Rattle.patch_frame.specs.declared.geometries.Format.TheVariants.{One, Two}
use Rattle.patch_frame.specs.declared.geometries.Geometry.{Geometry}
use Rattle.patch_frame.specs.Field.{zeros, are_zeros, outcome}
use Rattle.patch_frame.specs.Geometry.{version_of, is_geometry}

-- version 2 alone has the length of an extent; the rest of the block is zeros
abbrev pub last_fields : Format → List ℕ
last_fields One = zeros 4076
last_fields (Two length) = to_be_bytes w32 length ++ zeros 4072

-- the one spelling: mark, version, index blocks, extents, what is left
abbrev pub spelling : Geometry → List ℕ
spelling g =
    codes "FSTCHUNK"
    ++ to_be_bytes w32 (version_of g.format)
    ++ to_be_bytes w32 g.index
    ++ to_be_bytes w32 g.extents
    ++ last_fields g.format

-- The same the other way: what stands where.
abbrev pub version : List ℕ → ℕ
version bytes = from_be_bytes w32 (slice_range bytes 8 12)

abbrev pub format_of : List ℕ → Format
format_of bytes = if version bytes == 1 then One else Two (from_be_bytes w32 (slice_range bytes 20 24))

-- where the zeros begin
abbrev pub fields_end : List ℕ → ℕ
fields_end bytes = if version bytes == 1 then 20 else 24

abbrev pub geometry_of : List ℕ → Geometry
geometry_of bytes = record {
  index = from_be_bytes w32 (slice_range bytes 12 16);
  extents = from_be_bytes w32 (slice_range bytes 16 20);
  format = format_of bytes;
}

-- the tests in order
abbrev pub superblock_tests : List ℕ → List (Bool × FrameFault)
superblock_tests bytes =
    (not (bytes_eq (slice_range bytes 0 8) (codes "FSTCHUNK")) || version bytes == 0 || nat_lt 2 (version bytes), BadMagic)
    ∷ (not (is_geometry (geometry_of bytes)), BadValue)
    ∷ (not (are_zeros (slice_range bytes (fields_end bytes) 4096)), NotZero)
    ∷ []

-- how the disk of these 4,096 bytes is divided
abbrev pub superblock_at : List ℕ → Result Geometry FrameFault
superblock_at bytes = outcome (superblock_tests bytes) (geometry_of bytes)

-- Version 1 beside version 2 with extents of 16 blocks.
abbrev pub in_version_1 : (index extents : ℕ) → Geometry
in_version_1 index extents = record { index = index; extents = extents; format = One }

abbrev pub in_version_2 : (index extents : ℕ) → Geometry
in_version_2 index extents = record { index = index; extents = extents; format = Two 16 }

-- the second bytes are the first ones but for those from one place to another
abbrev pub AgreeOutside : (start stop : ℕ) (first second : List ℕ) → Type 0
AgreeOutside start stop first second = second ≡ take start first ++ slice_range second start stop ++ drop stop first
