-- What can be read of blocks that hold no store because slots of the index are wrong.
use Rattle.std.specs.Prelude.{ℕ, ◌≡◌, ◌+◌, ◌++◌, List, [], ◌∷◌, Option, Some, None, Result, Ok, Err, length, map, option_map, option_and_then, replicate, take, drop, slice_get, slice_set, slice_range}
use Rattle.patch_frame.specs.declared.faults.FrameFault.{FrameFault}
use Rattle.patch_frame.specs.declared.geometries.Geometry.{Geometry}
use Rattle.patch_frame.specs.declared.slots.TheConstants.{SLOT_BYTES}
use Rattle.patch_frame.specs.Geometry.{slot_block, slot_start, longest_frame}
use Rattle.patch_frame.specs.Slot.{slot_at}
use Rattle.patch_frame.specs.Superblock.{superblock_at}
use Rattle.patch_history.specs.declared.refusals.OpenFault.{OpenFault}
use Rattle.patch_history.specs.Refusals.{fault_of, open_cause}
use Rattle.patch_recovery.specs.Ledger.{Ledger}
use Rattle.patch_recovery.specs.Reading.{Fault, BadSuper, FileSize, BadPointer, BadSlot, BadFrame, DuplicateKey, reading, block_on, read_as}
use Rattle.patch_store.specs.Checking.{entries_of}
use Rattle.patch_store.specs.Opening.{at_opening}
use Rattle.patch_disks.specs.declared.surveying.BadSlot.{BadSlot as TheBadSlot}

-- the slot that a test names
abbrev pub slot_in : Fault → Option ℕ
slot_in BadSuper = None
slot_in FileSize = None
slot_in BadPointer = None
slot_in (BadSlot slot) = Some slot
slot_in (BadFrame slot) = Some slot
slot_in (DuplicateKey slot) = Some slot

-- the key of a slot that begins there in its block, on a disk that is divided so
abbrev pub key_under : Result Geometry FrameFault → (start : ℕ) → List ℕ → Option (List ℕ)
key_under (Ok g) start block = option_map (λ s. s.key) (read_as (slot_at (longest_frame g.format) (slice_range block start (start + SLOT_BYTES))))
key_under (Err fault) start block = None

-- the key that a slot of the blocks names, if it says what a slot may say
abbrev pub key_named : List (List ℕ) → ℕ → Option (List ℕ)
key_named blocks slot =
    option_and_then (λ first. option_and_then (key_under (superblock_at first) (slot_start slot)) (slice_get blocks (slot_block slot)))
    (slice_get blocks 0)

-- a block with zeros in place of the slot that begins there
abbrev pub cleared : List ℕ → ℕ → List ℕ
cleared block start = take start block ++ replicate SLOT_BYTES 0 ++ drop (start + SLOT_BYTES) block

-- the blocks without a slot: it is empty
abbrev pub without_slot : List (List ℕ) → ℕ → List (List ℕ)
without_slot blocks slot = slice_set blocks (slot_block slot) (cleared (block_on blocks (slot_block slot)) (slot_start slot))

-- the first test that refuses the blocks names this slot, and is told, with the key that the slot names
pub record IsBad (blocks : List (List ℕ)) (slot : ℕ) (bad : TheBadSlot) : Type 0 where
  pub test : Fault
  pub refused : reading blocks ≡ Err test
  pub names : slot_in test ≡ Some slot
  pub fault : OpenFault
  pub is_of : fault_of fault ≡ Some test
  pub told : bad.why ≡ open_cause fault
  pub key_is : bad.key ≡ key_named blocks slot

-- Slots that are wrong, one after another, each without those before it: what is left without them all.
abbrev pub AreBad : List (List ℕ) → List TheBadSlot → List (List ℕ) → Type 0
AreBad blocks [] left = left ≡ blocks
AreBad blocks (bad ∷ rest) left = (slot : ℕ) × IsBad blocks slot bad × AreBad (without_slot blocks slot) rest left

-- the blocks hold a store with these entries
pub record HasEntries (blocks : List (List ℕ)) (entries : List (List ℕ × ℕ)) : Type 0 where
  pub ledger : Ledger
  pub reads : reading blocks ≡ Ok ledger
  pub entries_are : entries ≡ entries_of (at_opening blocks ledger)

-- The slots that are wrong, and the entries of the store that is left without them.
abbrev pub IsSurvey : (blocks : List (List ℕ)) (bad : List TheBadSlot) (entries : List (List ℕ × ℕ)) → Type 0
IsSurvey blocks bad entries = (left : List (List ℕ)) × AreBad blocks bad left × HasEntries left entries
