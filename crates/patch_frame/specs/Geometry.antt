-- How a disk is divided: superblock, index blocks, pointer block, extents.
use Rattle.std.specs.Prelude.{ℕ, ◌+◌, ◌-◌, ◌*◌, ◌/◌, ◌%◌, ◌≤◌, min, Bool, true, ◌&&◌, nat_le}
use Rattle.patch_model.specs.declared.blocks.TheConstants.{BLOCK}
use Rattle.patch_model.specs.declared.limits.TheConstants.{MAX_BLOCKS}
use Rattle.patch_frame.specs.declared.framing.TheConstants.{MAX_VALUE}
use Rattle.patch_frame.specs.declared.geometries.TheConstants.{MIN_EXTENT_BLOCKS, MAX_EXTENT_BLOCKS, MAX_INDEX_BLOCKS, MAX_EXTENTS, SLOTS_PER_BLOCK, MAX_OVERHEAD}
use Rattle.patch_frame.specs.declared.pointers.TheConstants.{POINTER_BYTES}
use Rattle.patch_frame.specs.declared.slots.TheConstants.{SLOT_BYTES, MAX_FRAME}
use Rattle.patch_frame.specs.declared.geometries.Format.{Format}
use Rattle.patch_frame.specs.declared.geometries.Format.TheVariants.{One, Two}
use Rattle.patch_frame.specs.declared.geometries.Geometry.{Geometry}

abbrev pub version_of : Format → ℕ
version_of One = 1
version_of (Two _) = 2

-- the blocks of an extent
abbrev pub extent_blocks : Format → ℕ
extent_blocks One = MIN_EXTENT_BLOCKS
extent_blocks (Two length) = length

-- the bytes of an extent
abbrev pub largest_pointer : Format → ℕ
largest_pointer format = BLOCK * extent_blocks format

-- the bytes that a value may have
abbrev pub value_limit : Format → ℕ
value_limit One = 32768
value_limit (Two length) = min MAX_VALUE (BLOCK * length - MAX_OVERHEAD)

-- the bytes of the longest frame that a slot may name
abbrev pub longest_frame : Format → ℕ
longest_frame One = 32816
longest_frame (Two _) = MAX_FRAME

-- Block 0 is the superblock. Behind it come the index blocks, with 64 slots each.
abbrev pub slot_count : Geometry → ℕ
slot_count g = SLOTS_PER_BLOCK * g.index

abbrev pub slot_block : ℕ → ℕ
slot_block slot = 1 + slot / SLOTS_PER_BLOCK

-- where in its block a slot begins
abbrev pub slot_start : ℕ → ℕ
slot_start slot = SLOT_BYTES * (slot % SLOTS_PER_BLOCK)

-- Then comes the block of the pointer records, and each extent behind the one before it.
abbrev pub pointer_block : Geometry → ℕ
pointer_block g = g.index + 1

-- where in that block the record of an extent begins
abbrev pub pointer_start : ℕ → ℕ
pointer_start extent = POINTER_BYTES * extent

abbrev pub first_block : Geometry → ℕ → ℕ
first_block g extent = 2 + g.index + extent_blocks g.format * extent

abbrev pub block_count : Geometry → ℕ
block_count g = 2 + g.index + extent_blocks g.format * g.extents

-- the length of an extent is one of the version's
abbrev pub IsFormat : Format → Type 0
IsFormat One = Unit {0}
IsFormat (Two length) = (MIN_EXTENT_BLOCKS ≤ length) × (length ≤ MAX_EXTENT_BLOCKS)

abbrev pub is_format : Format → Bool
is_format One = true
is_format (Two length) = nat_le MIN_EXTENT_BLOCKS length && nat_le length MAX_EXTENT_BLOCKS

-- a disk may be divided like this
pub record IsGeometry (g : Geometry) : Type 0 where
  pub some_index : 1 ≤ g.index
  pub short_index : g.index ≤ MAX_INDEX_BLOCKS
  pub some_extents : 2 ≤ g.extents
  pub few_extents : g.extents ≤ MAX_EXTENTS
  pub format : IsFormat g.format
  pub blocks : block_count g ≤ MAX_BLOCKS

abbrev pub is_geometry : Geometry → Bool
is_geometry g =
    nat_le 1 g.index && nat_le g.index MAX_INDEX_BLOCKS
    && nat_le 2 g.extents && nat_le g.extents MAX_EXTENTS
    && is_format g.format
    && nat_le (block_count g) MAX_BLOCKS
