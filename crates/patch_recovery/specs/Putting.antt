-- The changes of an append and of a put.
use Rattle.std.specs.Prelude.{ℕ, zero, suc, ◌≡◌, ◌≢◌, ◌+◌, ◌-◌, ◌%◌, ◌<◌, ◌≤◌, ◌^◌, true, if◌then◌else◌, IsTrue, List}
use Rattle.std.specs.Prelude.{[], ◌∷◌, length, take, drop, IfSome, Some, None, Ok}
use Rattle.std.specs.Str.{bytes_eq}
use Rattle.patch_model.specs.Execution.{Execution}
use Rattle.patch_model.specs.Entry.{is_among}
use Rattle.patch_frame.specs.Geometry.{IsGeometry, slot_count, largest_pointer, value_limit}
use Rattle.patch_frame.specs.Slot.{SlotFields}
use Rattle.patch_frame.specs.Frame.{Content, Fits, spelling, length_of}
use Rattle.patch_recovery.specs.Change.{Change, Data, Point, Fill, Made}
use Rattle.patch_recovery.specs.Ledger.{Ledger, after_all, frame_named}
use Rattle.patch_recovery.specs.Orders.{is_reset, is_clear, is_widen, AreWellMade}
use Rattle.patch_recovery.specs.Naming.{newest}
use Rattle.patch_recovery.specs.Store.{IsOfStore}
use Rattle.patch_recovery.specs.Said.{Moves, last_said}

-- bytes at a place of an extent, a change for each block that they reach, in rising order; at most so many
abbrev pub pieces_within : (most extent offset : ℕ) (bytes : List ℕ) → List Change
pieces_within zero extent offset bytes = []
pieces_within (suc most) extent offset [] = []
pieces_within (suc most) extent offset (byte ∷ bytes) =
    Data extent offset (take (4096 - offset % 4096) (byte ∷ bytes))
    ∷ pieces_within most extent (offset + (4096 - offset % 4096)) (drop (4096 - offset % 4096) (byte ∷ bytes))

-- all of the bytes
abbrev pub pieces : (extent offset : ℕ) (bytes : List ℕ) → List Change
pieces extent offset bytes = pieces_within (length bytes) extent offset bytes

-- these changes made one after another, each patch with the same names
abbrev pub made_in_order : List ℕ → List Change → List Made → List Made
made_in_order names [] earlier = earlier
made_in_order names (change ∷ changes) earlier =
    made_in_order names changes (record { change = change; after = names } ∷ earlier)

-- a frame put into an extent and named by a slot, with what the patches of its bytes, pointer and slot name
pub record Put : Type 0 where
  pub slot : ℕ
  pub content : Content
  pub extent : ℕ
  pub bytes_names : List ℕ
  pub pointer_names : List ℕ
  pub slot_names : List ℕ

-- what the slot says: the frame stands at the pointer
abbrev pub fields_put : Ledger → Put → SlotFields
fields_put l put = record {
  key = put.content.key;
  extent = put.extent;
  generation = (l.pointer put.extent).generation;
  offset = (l.pointer put.extent).offset;
  length = length_of put.content;
}

-- the changes once its bytes are made
abbrev pub bytes_put : Ledger → List Made → Put → List Made
bytes_put first earlier put =
    made_in_order put.bytes_names
    (pieces put.extent ((after_all first earlier).pointer put.extent).offset (spelling put.content)) earlier

-- once its pointer is made too
abbrev pub pointer_put : Ledger → List Made → Put → List Made
pointer_put first earlier put =
    record {
      change = Point put.extent ((after_all first earlier).pointer put.extent).generation
          (((after_all first earlier).pointer put.extent).offset + length_of put.content);
      after = put.pointer_names;
    } ∷ bytes_put first earlier put

-- and once its slot is
abbrev pub slot_put : Ledger → List Made → Put → List Made
slot_put first earlier put =
    record { change = Fill put.slot (fields_put (after_all first earlier) put); after = put.slot_names }
    ∷ pointer_put first earlier put

-- The frame fits; its key stands in no other slot, and in the slot's own if it was used. The bytes name the last reset
-- of the extent; the pointer all the bytes; the slot the pointer, the upgrade and, if it was empty, the last clear.
pub record IsRightPut (first : Ledger) (earlier : List Made) (put : Put) : Type 0 where
  pub known : put.extent < (after_all first earlier).geometry.extents
  pub slot : put.slot < slot_count (after_all first earlier).geometry
  pub content : Fits (value_limit (after_all first earlier).geometry.format) put.content
  pub generation : ((after_all first earlier).pointer put.extent).generation < 2 ^ 32
  pub room : ((after_all first earlier).pointer put.extent).offset + length_of put.content
      ≤ largest_pointer (after_all first earlier).geometry.format
  pub only : (other : ℕ) (t : SlotFields) → other ≢ put.slot → (after_all first earlier).slot other ≡ Some t
      → t.key ≢ put.content.key
  pub same_key : (t : SlotFields) → (after_all first earlier).slot put.slot ≡ Some t → t.key ≡ put.content.key
  pub bytes_named : IfSome (newest (is_reset put.extent) earlier) (λ n. IsTrue (is_among put.bytes_names n))
  pub pointer_named : (n : ℕ) → length earlier ≤ n → n < length (bytes_put first earlier put)
      → IsTrue (is_among put.pointer_names n)
  pub slot_named : IsTrue (is_among put.slot_names (length (bytes_put first earlier put)))
  pub upgrade_named : IfSome (newest is_widen earlier) (λ n. IsTrue (is_among put.slot_names n))
  pub cleared_named : (after_all first earlier).slot put.slot ≡ None
      → IfSome (newest is_clear earlier) (λ n. IsTrue (is_among put.slot_names n))

-- then each of the changes is well made, the slot's frame is read, and the key has the value from then on
pub record IsPutWell (first : Ledger) (earlier : List Made) (put : Put) : Type 0 where
  pub well_made : AreWellMade first (slot_put first earlier put)
  pub values : (key : List ℕ) → last_said (λ number. true) first (slot_put first earlier put) key
      ≡ (if bytes_eq put.content.key key then Some put.content.value else last_said (λ number. true) first earlier key)
  pub frame : frame_named (after_all first (slot_put first earlier put)) (fields_put (after_all first earlier) put)
      ≡ Ok put.content

-- a put that is right is well made
abbrev pub PutsAreWellMade : Type 0
PutsAreWellMade =
    (first : Ledger) (earlier : List Made) (put : Put)
    → IsGeometry first.geometry → AreWellMade first earlier → IsRightPut first earlier put → IsPutWell first earlier put

-- where the slot names a frame with the same content already, the put is a move
abbrev pub PutsAgainAreMoves : Type 0
PutsAgainAreMoves =
    (run : Execution) (first : Ledger) (earlier : List Made) (put : Put) (s : SlotFields)
    → IsOfStore run first (slot_put first earlier put) → IsRightPut first earlier put
    → (after_all first earlier).slot put.slot ≡ Some s → frame_named (after_all first earlier) s ≡ Ok put.content
    → Moves (after_all first (pointer_put first earlier put)) (Fill put.slot (fields_put (after_all first earlier) put))
