-- All that a shelf keeps to be named was made.
use Rattle.std.proofs.Common.{◌≡◌, ℕ, ◌+◌, ◌<◌, ◌≤◌, inl, inr, List, [], ◌∷◌, length, sym, arith, subst, Option, Some}
use Rattle.std.proofs.Common.{None}
use Rattle.std.specs.Prelude.{◌==◌, All, fold, take, slice_index_or}
use Rattle.std.specs.List.{range_with_len}
use Rattle.std.proofs.lemmas.Bool.{cases_Bool, cases_lt}
use Rattle.std.proofs.lemmas.List.{get_or_past}
use Rattle.std.proofs.lemmas.List.Elements.{All-nil, All-replicate, All-get_or, All-set, All-push, All-weaker, All-map}
use Rattle.patch_frame.specs.Slot.{SlotFields}
use Rattle.patch_recovery.specs.Change.{Change, Data, Point, Fill, Clear, Widen, Made}
use Rattle.patch_recovery.specs.Ledger.{Ledger}
use Rattle.patch_plans.specs.Extents.{extent_at, no_extent, pointed}
use Rattle.patch_history.specs.Shelf.{Shelf, leaving, opened, opened_extent, slot_at, after_change, after_plan}
use Rattle.patch_history.specs.StoreState.{Standing, creates, at_opening, made_by, plan_of}
use Rattle.patch_history.specs.History.{Event, Call, Moved, after_event}
use Rattle.patch_history.specs.ShelfLedger.{IsMade, AreMade, KeptAreMade}
use Rattle.patch_history.proofs.Going.{onto_length}

-- what was made stays so
still_made : (a b : ℕ) (o : Option ℕ) → a ≤ b → IsMade a o → IsMade b o
still_made a b None le is = tt
still_made a b (Some n) le is = omega (arith, le, is)

more : (s : Shelf) (a b : ℕ) → a ≤ b → AreMade s a → AreMade s b
more s a b le are = record {
  last_delete = still_made a b s.last_delete le are.last_delete;
  upgrade = still_made a b s.upgrade le are.upgrade;
  resets = All-weaker (λ k. IsMade a k.reset) (λ k. IsMade b k.reset) (λ k. still_made a b k.reset le) s.extents.each
      are.resets;
  points = All-weaker (λ k. IsMade a k.point) (λ k. IsMade b k.point) (λ k. still_made a b k.point le) s.extents.each
      are.points;
  left = All-weaker (All (λ n. n < a)) (All (λ n. n < b))
      (λ ns. All-weaker (λ n. n < a) (λ n. n < b) (λ n less. omega (arith, le, less)) ns) s.left are.left;
}

-- what a change adds
left_made : (n : ℕ) (left : List (List ℕ)) (o : Option SlotFields) → All (All (λ k. k < n + 1)) left
    → All (All (λ k. k < n + 1)) (leaving left n o)
left_made n left None are = are
left_made n left (Some f) are =
    let here : All (λ k. k < n + 1) (slice_index_or left f.extent []) = elim (cases_lt f.extent (length left)) [
      | inl less ↦ All-get_or (All (λ k. k < n + 1)) left f.extent [] less are
      | inr past ↦ subst (All (λ k. k < n + 1)) (sym (get_or_past left f.extent [] past)) (All-nil (λ k. k < n + 1))
    ] in
    All-set (All (λ k. k < n + 1)) left f.extent _ (All-push (λ k. k < n + 1) (slice_index_or left f.extent []) n here (omega arith)) are

reset_made : (s : Shelf) (n e generation offset : ℕ) → AreMade s (n + 1)
    → IsMade (n + 1) (pointed n generation offset (extent_at s.extents e)).reset
reset_made s n e generation offset are = elim (cases_Bool (offset == 0)) [
  | inl u ↦ rw u (omega arith)
  | inr u ↦ rw u (elim (cases_lt e (length s.extents.each)) [
    | inl less ↦ All-get_or (λ k. IsMade (n + 1) k.reset) s.extents.each e no_extent less are.resets
    | inr past ↦ subst (λ k. IsMade (n + 1) k.reset) (sym (get_or_past s.extents.each e no_extent past)) tt
  ])
]

change_made : (s : Shelf) (n : ℕ) (c : Change) → AreMade s (n + 1) → AreMade (after_change s n c) (n + 1)
change_made s n (Data extent offset bytes) are = are
change_made s n (Point extent generation offset) are = record {
  last_delete = are.last_delete;
  upgrade = are.upgrade;
  resets = All-set (λ k. IsMade (n + 1) k.reset) s.extents.each extent
      (pointed n generation offset (extent_at s.extents extent))
      (reset_made s n extent generation offset are) are.resets;
  points = All-set (λ k. IsMade (n + 1) k.point) s.extents.each extent
      (pointed n generation offset (extent_at s.extents extent)) (omega arith) are.points;
  left = elim (cases_Bool (offset == 0)) [
    | inl u ↦ rw u (All-set (All (λ k. k < n + 1)) s.left extent [] (All-nil (λ k. k < n + 1)) are.left)
    | inr u ↦ rw u (are.left)
  ];
}
change_made s n (Fill slot fields) are = record {
  last_delete = are.last_delete;
  upgrade = are.upgrade;
  resets = are.resets;
  points = are.points;
  left = left_made n s.left (slot_at s slot) are.left;
}
change_made s n (Clear slot) are = record {
  last_delete = omega arith;
  upgrade = are.upgrade;
  resets = are.resets;
  points = are.points;
  left = left_made n s.left (slot_at s slot) are.left;
}
change_made s n Widen are = record {
  last_delete = are.last_delete;
  upgrade = omega arith;
  resets = are.resets;
  points = are.points;
  left = are.left;
}

plan_made : (plan : List Made) (s : Shelf) (n : ℕ) → AreMade s n → AreMade (after_plan s n plan) (n + length plan)
plan_made [] s n are = more s n (n + 0) (omega arith) are
plan_made (m ∷ plan) s n are =
    let one = change_made s n m.change (more s n (n + 1) (omega arith) are) in
    subst (AreMade (after_plan (after_change s n m.change) (n + 1) plan))
    (let e : n + 1 + length plan ≡ n + length (m ∷ plan) = omega arith in e)
    (plan_made plan (after_change s n m.change) (n + 1) one)

event_made : (st : Standing) (event : Event) → AreMade st.shelf (made_by st)
    → AreMade (after_event st event).shelf (made_by (after_event st event))
event_made st (Call writer command reply steps) are =
    let done = take (creates steps) (plan_of st writer command) in
    subst (AreMade (after_plan st.shelf (made_by st) done)) (sym (onto_length done st.made))
    (plan_made done st.shelf (made_by st) are)
event_made st (Moved step) are = are

events_made : (events : List Event) (st : Standing) → AreMade st.shelf (made_by st)
    → AreMade (fold after_event st events).shelf (made_by (fold after_event st events))
events_made [] st are = are
events_made (event ∷ events) st are = events_made events (after_event st event) (event_made st event are)

opened_made : (l : Ledger) → AreMade (opened l) 0
opened_made l = record {
  last_delete = tt;
  upgrade = tt;
  resets = All-map (λ k. IsMade 0 k.reset) (λ e. opened_extent (l.pointer e)) (range_with_len 0 l.geometry.extents)
      (λ i d less. tt);
  points = All-map (λ k. IsMade 0 k.point) (λ e. opened_extent (l.pointer e)) (range_with_len 0 l.geometry.extents)
      (λ i d less. tt);
  left = All-replicate (All (λ k. k < 0)) l.geometry.extents [] (All-nil (λ k. k < 0));
}

pub kept_are_made : KeptAreMade
kept_are_made h = events_made h.events (at_opening h.opening h.first) (opened_made h.first)
