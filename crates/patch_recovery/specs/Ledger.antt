-- What a disk says: how it is divided, its pointer records, its slots, and the bytes of its extents.
use Rattle.std.specs.Prelude.{ℕ, Bool, false, ◌≡◌, ◌+◌, ◌-◌, ◌==◌, ◌&&◌, ◌<◌, nat_le, nat_lt, if◌then◌else◌, List, []}
use Rattle.std.specs.Prelude.{◌∷◌, length, map, slice_index, Option, Some, None, Result, Ok, Err}
use Rattle.std.specs.Str.{bytes_eq}
use Rattle.std.specs.List.{range_with_len, flat_map}
use Rattle.patch_frame.specs.declared.faults.FrameFault.{FrameFault}
use Rattle.patch_frame.specs.declared.geometries.Geometry.{Geometry}
use Rattle.patch_frame.specs.declared.pointers.Pointer.{Pointer}
use Rattle.patch_frame.specs.Geometry.{value_limit, largest_pointer, slot_count}
use Rattle.patch_frame.specs.Slot.{SlotFields}
use Rattle.patch_frame.specs.Frame.{Content, frame_at, length_of}
use Rattle.patch_recovery.specs.Change.{Change, Data, Point, Fill, Clear, Widen, Made, widened}

-- the geometry, each extent's pointer record, what each slot says, and the byte at each place of each extent
pub record Ledger : Type 0 where
  pub geometry : Geometry
  pub pointer : ℕ → Pointer
  pub slot : ℕ → Option SlotFields
  pub byte : ℕ → ℕ → ℕ

-- the change puts bytes over this place of the extent
abbrev pub writes_at : (extent place : ℕ) → Change → Bool
writes_at extent place (Data e offset bytes) =
    extent == e && nat_le offset place && nat_lt place (offset + length bytes)
writes_at extent place _ = false

-- the ledger after one more change
abbrev pub after : Ledger → Change → Ledger
after l (Data extent offset bytes) = record l {
  byte = λ e place.
      if writes_at e place (Data extent offset bytes) then slice_index bytes (place - offset) else l.byte e place;
}
after l (Point extent generation offset) = record l {
  pointer = λ e. if e == extent then record { generation = generation; offset = offset } else l.pointer e;
}
after l (Fill slot fields) = record l { slot = λ s. if s == slot then Some fields else l.slot s }
after l (Clear slot) = record l { slot = λ s. if s == slot then None else l.slot s }
after l Widen = record l { geometry = widened l.geometry }

-- the ledger after these changes, the newest of which stands first
abbrev pub after_all : Ledger → List Made → Ledger
after_all l [] = l
after_all l (made ∷ earlier) = after (after_all l earlier) made.change

-- the same with those changes alone whose numbers pass
abbrev pub after_those : (ℕ → Bool) → Ledger → List Made → Ledger
after_those keeps l [] = l
after_those keeps l (made ∷ earlier) =
    if keeps (length earlier) then after (after_those keeps l earlier) made.change else after_those keeps l earlier

-- so many bytes of an extent
abbrev pub bytes_at : Ledger → (extent offset count : ℕ) → List ℕ
bytes_at l extent offset count = map (λ place. l.byte extent place) (range_with_len offset count)

-- what is read at the place that a slot names
abbrev pub frame_named : Ledger → SlotFields → Result Content FrameFault
frame_named l s = frame_at (value_limit l.geometry.format) (bytes_at l s.extent s.offset s.length)

-- a frame of just the slot's length with the slot's key
abbrev pub is_frame_of : SlotFields → Result Content FrameFault → Bool
is_frame_of s (Ok c) = bytes_eq c.key s.key && length_of c == s.length
is_frame_of s (Err fault) = false

-- the place that a slot names lies before its extent's pointer, in the extent's generation, and has the slot's frame
abbrev pub names_frame : Ledger → SlotFields → Bool
names_frame l s =
    (l.pointer s.extent).generation == s.generation
    && nat_le (s.offset + s.length) (l.pointer s.extent).offset
    && is_frame_of s (frame_named l s)

-- what a frame that is read adds to the map
abbrev pub entry_read : Result Content FrameFault → List Content
entry_read (Ok c) = c ∷ []
entry_read (Err fault) = []

-- what a slot adds to it
abbrev pub entry_of : Ledger → Option SlotFields → List Content
entry_of l None = []
entry_of l (Some s) = entry_read (frame_named l s)

-- the map: each used slot's key, with the value of the frame that it names
abbrev pub map_of : Ledger → List Content
map_of l = flat_map (λ s. entry_of l (l.slot s)) (range_with_len 0 (slot_count l.geometry))

-- the value of a key in a map
abbrev pub value_in : List Content → List ℕ → Option (List ℕ)
value_in [] key = None
value_in (c ∷ cs) key = if bytes_eq c.key key then Some c.value else value_in cs key

-- they say the same of all that the disk has
pub record SaysSame (k l : Ledger) : Type 0 where
  pub geometry : k.geometry ≡ l.geometry
  pub pointer : (extent : ℕ) → extent < l.geometry.extents → k.pointer extent ≡ l.pointer extent
  pub slot : (slot : ℕ) → k.slot slot ≡ l.slot slot
  pub byte : (extent place : ℕ) → extent < l.geometry.extents → place < largest_pointer l.geometry.format
      → k.byte extent place ≡ l.byte extent place
