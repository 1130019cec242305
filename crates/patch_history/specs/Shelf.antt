-- What a store keeps beside its cache: the slots and the extents, and which patches the next ones have to name.
use Rattle.std.specs.Prelude.{ℕ, Bool, ◌+◌, ◌==◌, ◌&&◌, nat_le, if◌then◌else◌, List, [], ◌∷◌, ◌++◌, map, find, replicate}
use Rattle.std.specs.Prelude.{slice_index_or, slice_set, Option, Some, None}
use Rattle.std.specs.List.{range_with_len}
use Rattle.patch_frame.specs.declared.framing.TheConstants.{MIN_FRAME}
use Rattle.patch_frame.specs.declared.pointers.Pointer.{Pointer}
use Rattle.patch_frame.specs.Geometry.{slot_count, largest_pointer}
use Rattle.patch_frame.specs.Slot.{SlotFields}
use Rattle.patch_recovery.specs.Change.{Change, Data, Point, Fill, Clear, Widen, Made}
use Rattle.patch_recovery.specs.Ledger.{Ledger}
use Rattle.patch_plans.specs.declared.records.Extent.{Extent}
use Rattle.patch_plans.specs.Extents.{Extents}
use Rattle.patch_plans.specs.Writing as extents

-- The extents; what each slot says; the extent that puts append to, if one is; the patch of the last delete, and of the
-- upgrade; and, for each extent, the slot patches since its last reset that took an entry from it.
pub record Shelf : Type 0 where
  pub extents : Extents
  pub slots : List (Option SlotFields)
  pub current : Option ℕ
  pub last_delete : Option ℕ
  pub upgrade : Option ℕ
  pub left : List (List ℕ)

abbrev pub slot_at : Shelf → ℕ → Option SlotFields
slot_at s slot = slice_index_or s.slots slot None

abbrev pub left_of : Shelf → ℕ → List ℕ
left_of s extent = slice_index_or s.left extent []

-- the patch n takes from the extent that these fields name
abbrev pub leaving : List (List ℕ) → ℕ → Option SlotFields → List (List ℕ)
leaving left n None = left
leaving left n (Some fields) = slice_set left fields.extent (slice_index_or left fields.extent [] ++ n ∷ [])

-- the current extent, unless it is this one
abbrev pub not_current : ℕ → Option ℕ → Option ℕ
not_current extent None = None
not_current extent (Some current) = if current == extent then None else Some current

-- Behind an append the extent is current. Behind a reset it is not, and nothing has left it.
abbrev pub after_point : Shelf → (n extent generation offset : ℕ) → Shelf
after_point s n extent generation offset = record s {
  extents = extents.after_change s.extents n (Point extent generation offset);
  current = if offset == 0 then not_current extent s.current else Some extent;
  left = if offset == 0 then slice_set s.left extent [] else s.left;
}

-- the slot says this from now on
abbrev pub after_slot : Shelf → (n slot : ℕ) → Option SlotFields → Shelf
after_slot s n slot fields = record s {
  slots = slice_set s.slots slot fields;
  left = leaving s.left n (slot_at s slot);
}

-- after a change by the patch n
abbrev pub after_change : Shelf → ℕ → Change → Shelf
after_change s n (Data extent offset bytes) = s
after_change s n (Point extent generation offset) = after_point s n extent generation offset
after_change s n (Fill slot fields) = after_slot s n slot (Some fields)
after_change s n (Clear slot) = record (after_slot s n slot None) { last_delete = Some n }
after_change s n Widen = record s { extents = extents.after_change s.extents n Widen; upgrade = Some n }

-- after some changes, the first of them by the patch n
abbrev pub after_plan : Shelf → ℕ → List Made → Shelf
after_plan s n [] = s
after_plan s n (m ∷ plan) = after_plan (after_change s n m.change) (n + 1) plan

-- A store as it is opened.

abbrev pub opened_extent : Pointer → Extent
opened_extent p = record { pointer = p; reset = None; point = None }

-- there is something in the extent, and room for the shortest frame
abbrev pub may_be_current : Ledger → ℕ → Bool
may_be_current l extent =
    nat_le 1 (l.pointer extent).offset
    && nat_le ((l.pointer extent).offset + MIN_FRAME) (largest_pointer l.geometry.format)

abbrev pub opened : Ledger → Shelf
opened l = record {
  extents = record {
    geometry = l.geometry;
    each = map (λ e. opened_extent (l.pointer e)) (range_with_len 0 l.geometry.extents);
  };
  slots = map l.slot (range_with_len 0 (slot_count l.geometry));
  current = find (may_be_current l) (range_with_len 0 l.geometry.extents);
  last_delete = None;
  upgrade = None;
  left = replicate l.geometry.extents [];
}
