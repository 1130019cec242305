-- Which slot and which extent are taken.
use Rattle.std.specs.Prelude.{ℕ, Bool, ◌+◌, ◌==◌, nat_le, if◌then◌else◌, List, [], ◌∷◌, position, is_none}
use Rattle.std.specs.Prelude.{Option, Some, None}
use Rattle.std.specs.Option.{option_or}
use Rattle.patch_frame.specs.Geometry.{largest_pointer}
use Rattle.patch_frame.specs.Slot.{SlotFields}
use Rattle.patch_recovery.specs.Reading.{has_key}
use Rattle.patch_plans.specs.Extents as extents
use Rattle.patch_plans.specs.Extents.{offset_at}
use Rattle.patch_history.specs.Shelf.{Shelf}

-- the slot of a key
abbrev pub slot_of : Shelf → List ℕ → Option ℕ
slot_of s key = position (has_key key) s.slots

-- the lowest empty slot
abbrev pub empty_slot : Shelf → Option ℕ
empty_slot s = position is_none s.slots

-- the key's own slot, or for a new key the lowest empty one
abbrev pub slot_for : Shelf → List ℕ → Option ℕ
slot_for s key = option_or (slot_of s key) (empty_slot s)

-- so many bytes fit behind the extent's pointer
abbrev pub has_room : Shelf → (len extent : ℕ) → Bool
has_room s len extent = nat_le (offset_at s.extents extent + len) (largest_pointer s.extents.geometry.format)

-- the current extent, where so many bytes fit
abbrev pub current_for : Shelf → ℕ → Option ℕ
current_for s len = elim s.current [
  | Some extent ↦ if has_room s len extent then Some extent else None
  | None ↦ None
]

-- the empty extents, rising
abbrev pub empty_extents : Shelf → List ℕ
empty_extents s = extents.empty_extents s.extents

-- the first of some numbers
abbrev pub first_of_any : List ℕ → Option ℕ
first_of_any [] = None
first_of_any (n ∷ ns) = Some n

-- the first of two or more
abbrev pub first_of_two : List ℕ → Option ℕ
first_of_two [] = None
first_of_two (n ∷ []) = None
first_of_two (n ∷ m ∷ ns) = Some n

-- where a put's frame goes: the last empty extent is kept
abbrev pub extent_for_put : Shelf → ℕ → Option ℕ
extent_for_put s len = option_or (current_for s len) (first_of_two (empty_extents s))

-- where a moved frame goes: it may take the last empty extent
abbrev pub extent_for_move : Shelf → ℕ → Option ℕ
extent_for_move s len = option_or (current_for s len) (first_of_any (empty_extents s))

-- the slots from this one on that name the extent, with what they say
abbrev pub live_from : ℕ → ℕ → List (Option SlotFields) → List (ℕ × SlotFields)
live_from extent slot [] = []
live_from extent slot (None ∷ slots) = live_from extent (slot + 1) slots
live_from extent slot (Some fields ∷ slots) =
    if fields.extent == extent then (slot, fields) ∷ live_from extent (slot + 1) slots
    else live_from extent (slot + 1) slots

-- a frame at its place among others, in order of offset
abbrev pub placed : ℕ × SlotFields → List (ℕ × SlotFields) → List (ℕ × SlotFields)
placed f [] = f ∷ []
placed f (g ∷ gs) = if nat_le f.1.offset g.1.offset then f ∷ g ∷ gs else g ∷ placed f gs

abbrev pub in_order : List (ℕ × SlotFields) → List (ℕ × SlotFields)
in_order [] = []
in_order (f ∷ fs) = placed f (in_order fs)

-- the live frames of an extent, in order of offset: the slots that name it, with what they say
abbrev pub live_frames : Shelf → ℕ → List (ℕ × SlotFields)
live_frames s extent = in_order (live_from extent 0 s.slots)
