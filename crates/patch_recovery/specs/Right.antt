-- What is true of a ledger that is read, and of a change where it is made.
use Rattle.std.specs.Prelude.{ℕ, ◌≡◌, ◌≢◌, ◌+◌, ◌%◌, ◌<◌, ◌≤◌, ◌^◌, ◌⊎◌, List, length, Some, Ok}
use Rattle.patch_frame.specs.declared.geometries.Format.TheVariants.{One}
use Rattle.patch_frame.specs.Geometry.{slot_count, longest_frame, largest_pointer}
use Rattle.patch_frame.specs.Slot.{SlotFields, FitsUsed}
use Rattle.patch_frame.specs.Frame.{Content, length_of}
use Rattle.patch_recovery.specs.Change.{Change, Data, Point, Fill, Clear, Widen}
use Rattle.patch_recovery.specs.Ledger.{Ledger, frame_named}

-- the frame that a slot names is there
pub record IsNamed (l : Ledger) (s : SlotFields) : Type 0 where
  pub extent : s.extent < l.geometry.extents
  pub generation : (l.pointer s.extent).generation ≡ s.generation
  pub before_pointer : s.offset + s.length ≤ (l.pointer s.extent).offset
  pub content : Content
  pub frame : frame_named l s ≡ Ok content
  pub key : content.key ≡ s.key
  pub length : length_of content ≡ s.length

-- each used slot names a frame that is there, no two have one key, and no pointer lies past its extent
pub record IsSound (l : Ledger) : Type 0 where
  pub known : (slot : ℕ) (s : SlotFields) → l.slot slot ≡ Some s → slot < slot_count l.geometry
  pub named : (slot : ℕ) (s : SlotFields) → l.slot slot ≡ Some s → IsNamed l s
  pub single : (slot other : ℕ) (s t : SlotFields) → l.slot slot ≡ Some s → l.slot other ≡ Some t
      → s.key ≡ t.key → slot ≡ other
  pub pointers : (extent : ℕ) → extent < l.geometry.extents
      → (l.pointer extent).offset ≤ largest_pointer l.geometry.format

-- bytes lie at or past the pointer, inside a block of the extent
pub record IsRightData (l : Ledger) (extent offset : ℕ) (bytes : List ℕ) : Type 0 where
  pub known : extent < l.geometry.extents
  pub some : 0 < length bytes
  pub one_block : offset % 4096 + length bytes ≤ 4096
  pub in_extent : offset + length bytes ≤ largest_pointer l.geometry.format
  pub past_pointer : (l.pointer extent).offset ≤ offset

-- a pointer moves on
pub record IsAppend (l : Ledger) (extent generation offset : ℕ) : Type 0 where
  pub generation_same : generation ≡ (l.pointer extent).generation
  pub further : (l.pointer extent).offset < offset

-- or it is set back, and the generation raised, once no slot names the extent
pub record IsReset (l : Ledger) (extent generation offset : ℕ) : Type 0 where
  pub raised : generation ≡ (l.pointer extent).generation + 1
  pub to_start : offset ≡ 0
  pub unnamed : (slot : ℕ) (s : SlotFields) → l.slot slot ≡ Some s → s.extent ≢ extent

-- a pointer record does the one or the other, and fits
pub record IsRightPoint (l : Ledger) (extent generation offset : ℕ) : Type 0 where
  pub known : extent < l.geometry.extents
  pub few : generation < 2 ^ 32
  pub in_extent : offset ≤ largest_pointer l.geometry.format
  pub moved : IsAppend l extent generation offset ⊎ IsReset l extent generation offset

-- a slot names a frame that is there; its key stands in no other slot; what the slot said before had the same key
pub record IsRightFill (l : Ledger) (slot : ℕ) (s : SlotFields) : Type 0 where
  pub known : slot < slot_count l.geometry
  pub fits : FitsUsed (longest_frame l.geometry.format) s
  pub named : IsNamed l s
  pub only : (other : ℕ) (t : SlotFields) → other ≢ slot → l.slot other ≡ Some t → t.key ≢ s.key
  pub same_key : (t : SlotFields) → l.slot slot ≡ Some t → t.key ≡ s.key

-- a used slot is cleared
pub record IsRightClear (l : Ledger) (slot : ℕ) : Type 0 where
  pub known : slot < slot_count l.geometry
  pub fields : SlotFields
  pub used : l.slot slot ≡ Some fields

-- the change is right over the ledger that it is made on; an upgrade is one of a disk of version 1
abbrev pub IsRight : Ledger → Change → Type 0
IsRight l (Data extent offset bytes) = IsRightData l extent offset bytes
IsRight l (Point extent generation offset) = IsRightPoint l extent generation offset
IsRight l (Fill slot s) = IsRightFill l slot s
IsRight l (Clear slot) = IsRightClear l slot
IsRight l Widen = l.geometry.format ≡ One
