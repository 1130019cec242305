-- The shelf goes with the ledger.
use Rattle.std.proofs.Common.{◌≡◌, ◌≢◌, ◌<◌, ◌+◌, ℕ, List, [], ◌∷◌, refl, ap, ◌∙◌, arith, inl, inr}
use Rattle.std.proofs.lemmas.Bool.{cases_Bool}
use Rattle.std.proofs.lemmas.Bool.Decides.{nat_tests}
use Rattle.std.proofs.lemmas.List.{length-set, get_or-set_same, get_or-set_other}
use Rattle.std.proofs.lemmas.List.FromFn.{get_or-map-range_with_len, length-map-range_with_len}
use Rattle.std.specs.Prelude.{true, false, ◌==◌, if◌then◌else◌, fold, Some, None, Option, take}
use Rattle.patch_frame.specs.Geometry.{slot_count}
use Rattle.patch_frame.specs.Slot.{SlotFields}
use Rattle.patch_recovery.specs.Change.{Change, Data, Point, Fill, Clear, Widen, Made, widened}
use Rattle.patch_recovery.specs.Ledger.{Ledger, after, after_all}
use Rattle.patch_plans.specs.Extents.{no_extent, extent_at, pointed}
use Rattle.patch_history.specs.Shelf.{Shelf, slot_at, opened, opened_extent, after_change, after_slot, after_plan}
use Rattle.patch_history.specs.StoreState.{creates, Standing, onto, at_opening, made_by, plan_of}
use Rattle.patch_history.specs.History.{History, Event, Call, Moved, after_event, standing_of, ledger_of}
use Rattle.patch_history.specs.ShelfLedger.{IsShelfOf}

equal : (a b : ℕ) → (a == b) ≡ true → a ≡ b
equal a b t = grind (arith, nat_tests)

unequal : (a b : ℕ) → (a == b) ≡ false → a ≢ b
unequal a b t = grind (arith, nat_tests)

-- one more change of a slot
pub after_slot_is : (s : Shelf) (l : Ledger) (n at : ℕ) (fields : Option SlotFields) → IsShelfOf s l
    → (slot : ℕ) → slot < slot_count l.geometry
    → slot_at (after_slot s n at fields) slot ≡ (if slot == at then fields else l.slot slot)
after_slot_is s l n at fields is slot h = elim (cases_Bool (slot == at)) [
  | inl t ↦ rw t (let e : slot ≡ at = equal slot at t in rw e (get_or-set_same s.slots at fields None (let c = is.slots in omega (arith, h, c, e))))
  | inr t ↦ rw t (get_or-set_other s.slots at slot fields None (unequal slot at t) ∙ is.slot slot h)
]

after_point_is : (s : Shelf) (l : Ledger) (n at generation offset : ℕ) → IsShelfOf s l → (e : ℕ)
    → e < l.geometry.extents
    → (extent_at (after_change s n (Point at generation offset)).extents e).pointer ≡ ((after l (Point at generation offset)).pointer e)
after_point_is s l n at generation offset is e h = elim (cases_Bool (e == at)) [
  | inl t ↦
      let same : e ≡ at = equal e at t in
      let new = pointed n generation offset (extent_at s.extents at) in
      let c = is.extents in
      rw (t, same) (ap (λ k. k.pointer) (get_or-set_same s.extents.each at new no_extent (omega (arith, h, c, same))))
  | inr t ↦ rw t (ap (λ k. k.pointer) (get_or-set_other s.extents.each at e (pointed n generation offset (extent_at s.extents at)) no_extent (unequal e at t)) ∙ is.pointer e h)
]

pub after_change_is : (s : Shelf) (l : Ledger) (n : ℕ) (c : Change) → IsShelfOf s l
    → IsShelfOf (after_change s n c) (after l c)
after_change_is s l n (Data extent offset bytes) is =
    record { geometry = is.geometry; extents = is.extents; slots = is.slots; pointer = is.pointer; slot = is.slot }
after_change_is s l n (Point extent generation offset) is = record {
  geometry = is.geometry;
  extents = length-set s.extents.each extent (pointed n generation offset (extent_at s.extents extent)) ∙ is.extents;
  slots = is.slots;
  pointer = after_point_is s l n extent generation offset is;
  slot = is.slot;
}
after_change_is s l n (Fill at fields) is = record {
  geometry = is.geometry;
  extents = is.extents;
  slots = length-set s.slots at (Some fields) ∙ is.slots;
  pointer = is.pointer;
  slot = after_slot_is s l n at (Some fields) is;
}
after_change_is s l n (Clear at) is = record {
  geometry = is.geometry;
  extents = is.extents;
  slots = length-set s.slots at None ∙ is.slots;
  pointer = is.pointer;
  slot = after_slot_is s l n at None is;
}
after_change_is s l n Widen is =
    record { geometry = ap widened is.geometry; extents = is.extents; slots = is.slots; pointer = is.pointer; slot = is.slot }

pub after_plan_is : (first : Ledger) (s : Shelf) (n : ℕ) (plan made : List Made) → IsShelfOf s (after_all first made)
    → IsShelfOf (after_plan s n plan) (after_all first (onto plan made))
after_plan_is first s n [] made is = is
after_plan_is first s n (m ∷ plan) made is =
    after_plan_is first (after_change s n m.change) (n + 1) plan (m ∷ made)
    (after_change_is s (after_all first made) n m.change is)

after_event_is : (first : Ledger) (st : Standing) (event : Event) → IsShelfOf st.shelf (after_all first st.made)
    → IsShelfOf (after_event st event).shelf (after_all first (after_event st event).made)
after_event_is first st (Call writer command reply steps) is =
    after_plan_is first st.shelf (made_by st) (take (creates steps) (plan_of st writer command)) st.made is
after_event_is first st (Moved step) is = is

after_events_is : (first : Ledger) (st : Standing) (events : List Event) → IsShelfOf st.shelf (after_all first st.made)
    → IsShelfOf (fold after_event st events).shelf (after_all first (fold after_event st events).made)
after_events_is first st [] is = is
after_events_is first st (event ∷ events) is =
    after_events_is first (after_event st event) events (after_event_is first st event is)

pub opened_is : (l : Ledger) → IsShelfOf (opened l) l
opened_is l = record {
  geometry = refl;
  extents = length-map-range_with_len (λ e. opened_extent (l.pointer e)) 0 l.geometry.extents;
  slots = length-map-range_with_len l.slot 0 (slot_count l.geometry);
  pointer =
      λ e h. ap (λ k. k.pointer)
      (get_or-map-range_with_len (λ e. opened_extent (l.pointer e)) 0 l.geometry.extents e e no_extent h (omega arith));
  slot = λ slot h. get_or-map-range_with_len l.slot 0 (slot_count l.geometry) slot slot None h (omega arith);
}

pub shelves_are_kept : (h : History) → IsShelfOf (standing_of h).shelf (ledger_of h)
shelves_are_kept h = after_events_is h.first (at_opening h.opening h.first) h.events (opened_is h.first)
