-- What well made changes leave of a ledger, and what is known of blocks that are read.
use Rattle.std.specs.Prelude.{ℕ, true, ◌≡◌, ◌<◌, List, length, slice_range, All, Option, Some, Ok}
use Rattle.patch_model.specs.declared.blocks.TheConstants.{BLOCK}
use Rattle.patch_frame.specs.Field.{are_zeros}
use Rattle.patch_frame.specs.Geometry.{IsGeometry, block_count, largest_pointer, pointer_block, pointer_start}
use Rattle.patch_frame.specs.Slot.{SlotFields}
use Rattle.patch_frame.specs.Pointer.{pointer_at}
use Rattle.patch_frame.specs.Frame.{Content}
use Rattle.patch_recovery.specs.Change.{Made}
use Rattle.patch_recovery.specs.Ledger.{Ledger, after_all, frame_named}
use Rattle.patch_recovery.specs.Reading.{reading, block_on, record_at}
use Rattle.patch_recovery.specs.Right.{IsSound}
use Rattle.patch_recovery.specs.Orders.{AreWellMade}
use Rattle.patch_recovery.specs.Said.{last_said}
use Rattle.patch_recovery.specs.Wider.{Wider}

-- a slot has the key
pub record HasSlot (l : Ledger) (key : List ℕ) : Type 0 where
  pub slot : ℕ
  pub fields : SlotFields
  pub used : l.slot slot ≡ Some fields
  pub same : fields.key ≡ key

-- each key of a slot is told the slot's value, and no other key is told one
pub record Tells (l : Ledger) (told : List ℕ → Option (List ℕ)) : Type 0 where
  pub has : (slot : ℕ) (f : SlotFields) (c : Content) → l.slot slot ≡ Some f → frame_named l f ≡ Ok c
      → told f.key ≡ Some c.value
  pub only : (key v : List ℕ) → told key ≡ Some v → HasSlot l key

-- the ledger after the changes is sound and divided as at first, or upgraded, and has what was said last
pub record Lasts (first : Ledger) (made : List Made) : Type 0 where
  pub geometry : Wider first.geometry (after_all first made).geometry
  pub sound : IsSound (after_all first made)
  pub tells : Tells (after_all first made) (last_said (λ number. true) first made)

-- so it is where each of them was well made
abbrev pub LedgersLast : Type 0
LedgersLast = (first : Ledger) (made : List Made) → IsSound first → AreWellMade first made → Lasts first made

-- blocks that are divided so, whose pointer records and what stands behind them are read, and whose ledger is sound
pub record IsReadAs (blocks : List (List ℕ)) (l : Ledger) : Type 0 where
  pub valid : IsGeometry l.geometry
  pub count : length blocks ≡ block_count l.geometry
  pub points : (extent : ℕ) → extent < l.geometry.extents
      → pointer_at (largest_pointer l.geometry.format) (record_at l.geometry blocks extent) ≡ Ok (l.pointer extent)
  pub padding : are_zeros (slice_range (block_on blocks (pointer_block l.geometry)) (pointer_start l.geometry.extents)
      BLOCK) ≡ true
  pub sound : IsSound l

-- so are all that are read
abbrev pub ReadBlocksAreSound : Type 0
ReadBlocksAreSound =
    (blocks : List (List ℕ)) (l : Ledger) → All (λ block. length block ≡ BLOCK) blocks → reading blocks ≡ Ok l
    → IsReadAs blocks l
