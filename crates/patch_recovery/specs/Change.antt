-- What a patch of the store means, and how it is spelled on the disk.
use Rattle.std.specs.Prelude.{ℕ, ◌+◌, ◌/◌, ◌%◌, List, [], ◌∷◌, ◌++◌, length, Some, None}
use Rattle.std.specs.Int.{w32, to_be_bytes}
use Rattle.patch_model.specs.declared.patches.Undo.TheVariants.{MayDrop}
use Rattle.patch_model.specs.Patch.{Patch}
use Rattle.patch_model.specs.Step.{Step, Create}
use Rattle.patch_frame.specs.declared.geometries.Format.TheVariants.{Two}
use Rattle.patch_frame.specs.declared.geometries.Geometry.{Geometry}
use Rattle.patch_frame.specs.Geometry.{slot_block, slot_start, pointer_block, pointer_start, first_block}
use Rattle.patch_frame.specs.Slot.{SlotFields}
use Rattle.patch_frame.specs.Slot as slots
use Rattle.patch_frame.specs.Pointer as pointers

-- bytes into an extent, inside one of its blocks; an extent's pointer record; a slot filled, used or empty before, or
-- cleared; the disk made one of version 2
pub data Change : Type 0 where
  Data : (extent offset : ℕ) (bytes : List ℕ) → Change
  Point : (extent generation offset : ℕ) → Change
  Fill : (slot : ℕ) (fields : SlotFields) → Change
  Clear : (slot : ℕ) → Change
  Widen : Change

-- the geometry of version 2 that an upgrade gives a disk of version 1: its extents stay where they are
abbrev pub widened : Geometry → Geometry
widened g = record g { format = Two 16 }

-- the block of a change
abbrev pub block_of : Geometry → Change → ℕ
block_of g (Data extent offset bytes) = first_block g extent + offset / 4096
block_of g (Point extent generation offset) = pointer_block g
block_of g (Fill slot fields) = slot_block slot
block_of g (Clear slot) = slot_block slot
block_of g Widen = 0

-- where in its block it begins
abbrev pub start_of : Change → ℕ
start_of (Data extent offset bytes) = offset % 4096
start_of (Point extent generation offset) = pointer_start extent
start_of (Fill slot fields) = slot_start slot
start_of (Clear slot) = slot_start slot
start_of Widen = 8

-- the bytes that it puts there
abbrev pub bytes_of : Geometry → Change → List ℕ
bytes_of g (Data extent offset bytes) = bytes
bytes_of g (Point extent generation offset) = pointers.spelling (record { generation = generation; offset = offset })
bytes_of g (Fill slot fields) = slots.spelling (Some fields)
bytes_of g (Clear slot) = slots.spelling None
bytes_of g Widen = to_be_bytes w32 2 ++ to_be_bytes w32 g.index ++ to_be_bytes w32 g.extents ++ to_be_bytes w32 16

-- a change as it was made, with the numbers of the patches that its patch names
pub record Made : Type 0 where
  pub change : Change
  pub after : List ℕ

-- the patch of a change: it may drop its saved bytes
abbrev pub patch_of : Geometry → ℕ → Made → Patch
patch_of g number made = record {
  no = number;
  block = block_of g made.change;
  start = start_of made.change;
  bytes = bytes_of g made.change;
  after = made.after;
  undo = MayDrop;
}

-- the step that makes it
abbrev pub step_of : Geometry → Made → Step
step_of g made = Create (block_of g made.change) (start_of made.change) (bytes_of g made.change) made.after MayDrop

-- The patches of these changes in order of making. Lists of changes stand the newest first: what was made before a
-- change is the rest of the list, and its number is the rest's length.
abbrev pub patches_of : Geometry → List Made → List Patch
patches_of g [] = []
patches_of g (made ∷ earlier) = patches_of g earlier ++ patch_of g (length earlier) made ∷ []
