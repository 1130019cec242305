-- What blocks are read as.
use Rattle.std.specs.Prelude.{ℕ, Bool, false, ◌+◌, ◌/◌, ◌%◌, ◌==◌, ◌||◌, not, nat_lt, if◌then◌else◌, List, [], ◌∷◌}
use Rattle.std.specs.Prelude.{length, slice_index, slice_index_or, slice_range, Option, Some, None, Result, Ok, Err}
use Rattle.std.specs.Prelude.{is_err}
use Rattle.std.specs.Str.{bytes_eq}
use Rattle.std.specs.Result.{result_map_both}
use Rattle.std.specs.List.{list_any, range_with_len, flat_map}
use Rattle.patch_frame.specs.declared.pointers.TheConstants.{POINTER_BYTES}
use Rattle.patch_frame.specs.declared.slots.TheConstants.{SLOT_BYTES}
use Rattle.patch_frame.specs.declared.faults.FrameFault.{FrameFault}
use Rattle.patch_frame.specs.declared.geometries.Geometry.{Geometry}
use Rattle.patch_frame.specs.Field.{are_zeros, outcome}
use Rattle.patch_frame.specs.Geometry.{slot_count, slot_block, slot_start, pointer_block, pointer_start, first_block}
use Rattle.patch_frame.specs.Geometry.{block_count, longest_frame, largest_pointer}
use Rattle.patch_frame.specs.Superblock.{superblock_at}
use Rattle.patch_frame.specs.Slot.{SlotFields, slot_at}
use Rattle.patch_frame.specs.Pointer.{pointer_of, pointer_at}
use Rattle.patch_frame.specs.Frame.{Content}
use Rattle.patch_recovery.specs.Ledger.{Ledger, names_frame, map_of}

-- why a disk isn't opened
pub data Fault : Type 0 where
  BadSuper : Fault
  FileSize : Fault
  BadPointer : Fault
  BadSlot : (slot : ℕ) → Fault
  BadFrame : (slot : ℕ) → Fault
  DuplicateKey : (slot : ℕ) → Fault

-- the block of this number
abbrev pub block_on : List (List ℕ) → ℕ → List ℕ
block_on blocks n = slice_index_or blocks n []

-- the bytes of an extent's pointer record
abbrev pub record_at : Geometry → List (List ℕ) → ℕ → List ℕ
record_at g blocks extent =
    slice_range (block_on blocks (pointer_block g)) (pointer_start extent) (pointer_start extent + POINTER_BYTES)

-- the bytes of a slot
abbrev pub slot_bytes : List (List ℕ) → ℕ → List ℕ
slot_bytes blocks slot = slice_range (block_on blocks (slot_block slot)) (slot_start slot) (slot_start slot + SLOT_BYTES)

-- what a slot that is read says
abbrev pub read_as : Result (Option SlotFields) FrameFault → Option SlotFields
read_as (Ok s) = s
read_as (Err fault) = None

-- what stands where, whatever the tests say; there are no slots but those of the index
abbrev pub ledger_in : Geometry → List (List ℕ) → Ledger
ledger_in g blocks = record {
  geometry = g;
  pointer = λ extent. pointer_of (record_at g blocks extent);
  slot = λ s.
      if nat_lt s (slot_count g) then read_as (slot_at (longest_frame g.format) (slot_bytes blocks s)) else None;
  byte = λ extent place. slice_index (block_on blocks (first_block g extent + place / 4096)) (place % 4096);
}

-- a record is refused, or a byte behind the last one isn't zero
abbrev pub bad_pointers : Geometry → List (List ℕ) → Bool
bad_pointers g blocks =
    list_any (λ e. is_err (pointer_at (largest_pointer g.format) (record_at g blocks e))) (range_with_len 0 g.extents)
    || not (are_zeros (slice_range (block_on blocks (pointer_block g)) (pointer_start g.extents) 4096))

-- the slot is used and has this key
abbrev pub has_key : List ℕ → Option SlotFields → Bool
has_key key None = false
has_key key (Some s) = bytes_eq s.key key

-- the tests of what a slot says, if it is used
abbrev pub used_tests : Ledger → ℕ → Option SlotFields → List (Bool × Fault)
used_tests l slot None = []
used_tests l slot (Some s) =
    (not (nat_lt s.extent l.geometry.extents), BadSlot slot)
    ∷ (not (names_frame l s), BadFrame slot)
    ∷ (list_any (λ lower. has_key s.key (l.slot lower)) (range_with_len 0 slot), DuplicateKey slot)
    ∷ []

-- the tests of a slot
abbrev pub slot_tests : Ledger → List (List ℕ) → ℕ → List (Bool × Fault)
slot_tests l blocks slot =
    (is_err (slot_at (longest_frame l.geometry.format) (slot_bytes blocks slot)), BadSlot slot)
    ∷ used_tests l slot (l.slot slot)

-- the tests of a disk that is divided so, in order
abbrev pub disk_tests : Ledger → List (List ℕ) → List (Bool × Fault)
disk_tests l blocks =
    (not (length blocks == block_count l.geometry), FileSize)
    ∷ (bad_pointers l.geometry blocks, BadPointer)
    ∷ flat_map (slot_tests l blocks) (range_with_len 0 (slot_count l.geometry))

-- what the superblock says, and the tests of the rest
abbrev pub read_under : List (List ℕ) → Result Geometry FrameFault → Result Ledger Fault
read_under blocks (Ok g) = outcome (disk_tests (ledger_in g blocks) blocks) (ledger_in g blocks)
read_under blocks (Err fault) = Err BadSuper

-- What the blocks are read as, or the first test that refuses them. A disk without a block is refused as one without a
-- superblock.
abbrev pub reading : List (List ℕ) → Result Ledger Fault
reading blocks = read_under blocks (superblock_at (block_on blocks 0))

-- the map that blocks are read as
abbrev pub map_read : List (List ℕ) → Result (List Content) Fault
map_read blocks = result_map_both map_of (λ fault. fault) (reading blocks)
