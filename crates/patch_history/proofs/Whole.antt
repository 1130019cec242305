-- What each command's plan makes is well made.
use Rattle.std.proofs.Common.{◌≡◌, ◌≢◌, ℕ, ◌+◌, ◌<◌, ◌≤◌, ◌^◌, ◌∙◌, inl, inr, List, [], ◌∷◌, ◌++◌, length, Option, Some}
use Rattle.std.proofs.Common.{None, refl, sym, ap, arith, subst}
use Rattle.std.specs.Prelude.{option_map, option_to_list}
use Rattle.std.proofs.lemmas.Bool.Decides.{nat_tests}
use Rattle.patch_frame.specs.Geometry.{IsGeometry, slot_count, largest_pointer, value_limit}
use Rattle.patch_frame.specs.Slot.{SlotFields}
use Rattle.patch_frame.specs.Frame.{Content, Fits, length_of}
use Rattle.patch_recovery.specs.Change.{Change, Data, Point, Fill, Clear, Widen, Made}
use Rattle.patch_recovery.specs.Ledger.{Ledger, after_all}
use Rattle.patch_recovery.specs.Right.{IsSound, IsRight}
use Rattle.patch_recovery.specs.Orders.{IsWellMade, AreWellMade, StandsIn}
use Rattle.patch_history.specs.LawsBelow.{Given}
use Rattle.patch_recovery.specs.Wider.{format_kept, limits_of}
use Rattle.patch_plans.specs.Extents.{offset_at}
use Rattle.patch_history.specs.Choosing.{slot_of, slot_for, extent_for_put, current_for, empty_extents, first_of_any}
use Rattle.patch_history.specs.Choosing.{first_of_two}
use Rattle.patch_history.specs.Planning.{frame_plan, put_plan}
use Rattle.patch_history.specs.Shelf.{Shelf, slot_at, left_of}
use Rattle.patch_history.specs.ShelfLedger.{IsInIndex}
use Rattle.patch_history.proofs.Names.{kept_are_named}
use Rattle.patch_history.proofs.Going.{Good}
use Rattle.patch_history.proofs.Framing.{FrameFits, has_kept}
use Rattle.patch_history.proofs.Moving.{Chosen, current_chosen, empty_chosen, first_in}
use Rattle.patch_history.proofs.Places.{slot_chosen, no_key_of}
use Rattle.patch_history.proofs.Members.{some_fields, some_plan}

-- A slot that is changed is one of the index.

tail_well : (first : Ledger) (later : List Made) (other : Made) (before : List Made)
    → AreWellMade first (later ++ other ∷ before) → AreWellMade first (other ∷ before)
tail_well first [] other before well = well
tail_well first (m ∷ later) other before well = tail_well first later other before well.1

inside : (l : Ledger) (count : ℕ) (c : Change) → slot_count l.geometry ≡ count → IsRight l c → IsInIndex count c
inside l count (Data extent offset bytes) e right = tt
inside l count (Point extent generation offset) e right = tt
inside l count (Fill slot fields) e right = let known = right.known in omega (arith, known, e)
inside l count (Clear slot) e right = let known = right.known in omega (arith, known, e)
inside l count Widen e right = tt

pub in_index : Given → (first : Ledger) (ms : List Made) → IsSound first → AreWellMade first ms
    → (other : Made) (before : List Made) → StandsIn ms other before
    → IsInIndex (slot_count first.geometry) other.change
in_index given first ms sound well other before stands =
    let here = tail_well first stands.later other before (subst (AreWellMade first) stands.are well) in
    inside (after_all first before) (slot_count first.geometry) other.change
    (limits_of first.geometry (after_all first before).geometry (given.last first before sound here.1).geometry).slots
    here.0.right

-- A put.

first_of_two_in : (xs : List ℕ) (x : ℕ) → first_of_two xs ≡ Some x → first_of_any xs ≡ Some x
first_of_two_in [] x h = h
first_of_two_in (y ∷ []) x h = absurd (let g : None ≡ Some x = h in cc)
first_of_two_in (y ∷ z ∷ xs) x h = h

pub put_chosen : (s : Shelf) (len e : ℕ) (o : Option ℕ) → current_for s len ≡ o → extent_for_put s len ≡ Some e
    → Chosen s len e
put_chosen s len e None at h =
    empty_chosen s len e (first_in (empty_extents s) e (first_of_two_in (empty_extents s) e (rw at at h)))
put_chosen s len e (Some x) at h =
    let same : Some x ≡ Some e = rw at at h in
    let chosen = current_chosen s len e s.current refl (at ∙ same) in
    record { known = inr chosen.0; which = inl chosen }

pub record IsPut (s : Shelf) (n : ℕ) (c : Content) (plan : List Made) : Type 0 where
  pub slot : ℕ
  pub extent : ℕ
  pub slot_is : slot_for s c.key ≡ Some slot
  pub extent_is : extent_for_put s (length_of c) ≡ Some extent
  pub are : plan ≡ frame_plan s n extent slot c

put_extent : (s : Shelf) (n slot : ℕ) (c : Content) (plan : List Made) (o : Option ℕ) → slot_for s c.key ≡ Some slot
    → extent_for_put s (length_of c) ≡ o
    → option_map (λ extent. frame_plan s n extent slot c) o ≡ Some plan → IsPut s n c plan
put_extent s n slot c plan None at e h = absurd (let g : None ≡ Some plan = h in cc)
put_extent s n slot c plan (Some extent) at e h =
    record { slot = slot; extent = extent; slot_is = at; extent_is = e; are = some_plan _ _ (sym h) }

pub put_cases : (s : Shelf) (n : ℕ) (c : Content) (plan : List Made) (o : Option ℕ) → slot_for s c.key ≡ o
    → put_plan s n c ≡ Some plan → IsPut s n c plan
put_cases s n c plan None at h = absurd (let g : None ≡ Some plan = rw (at, put_plan) at h in cc)
put_cases s n c plan (Some slot) at h =
    put_extent s n slot c plan (extent_for_put s (length_of c)) at refl (rw (at, put_plan) at h)

module _ (given : Given) (first : Ledger) (sound : IsSound first) (valid : IsGeometry first.geometry) where
  pub put_fits : (s : Shelf) (made : List Made) (n : ℕ) (c : Content) (plan : List Made) → Good s first made
      → Fits (value_limit (after_all first made).geometry.format) c → (p : IsPut s n c plan)
      → FrameFits first made p.extent p.slot c
  put_fits s made n c plan good fit p =
      let e = p.extent in
      let chosen = put_chosen s (length_of c) p.extent (current_for s (length_of c)) refl p.extent_is in
      let place = slot_chosen s c.key p.slot (slot_of s c.key) refl p.slot_is in
      let sizes =
      given.frames.fit (after_all first made).geometry.format c
      (format_kept first.geometry (after_all first made).geometry valid.format (given.last first made sound good.well).geometry) fit in
      let geometry = good.holds.shelf.geometry in
      let counts = good.holds.shelf.slots in
      let slots = good.holds.slots in
      let within = place.within in
      let known : p.extent < first.geometry.extents = elim (chosen.known) [
        | inl k ↦ (
            let x = good.holds.extents in
            let y : s.extents.geometry.extents ≡ (after_all first made).geometry.extents = ap (λ g. g.extents) geometry in omega (arith, k, x, y))
        | inr cur ↦ good.current p.extent cur
      ] in
      let known_now : p.extent < (after_all first made).geometry.extents =
      (let x = good.holds.extents in omega (arith, known, x)) in
      let offset : offset_at s.extents p.extent ≡ ((after_all first made).pointer p.extent).offset =
      ap (λ p. p.offset) (good.holds.shelf.pointer p.extent known_now) in
      let largest : largest_pointer s.extents.geometry.format
      ≡ largest_pointer (after_all first made).geometry.format =
      ap (λ g. largest_pointer g.format) geometry in
      let now = (given.last first made sound good.well).sound in
      let says : (x : ℕ) → x < length s.slots → slot_at s x ≡ (after_all first made).slot x =
      λ x less. good.holds.shelf.slot x (omega (arith, less, counts)) in
      record {
        known = known;
        slot = omega (arith, within, counts, slots);
        content = fit;
        room = elim (chosen.which) [
          | inl cur ↦ (
              let test = cur.1 in
              let le : offset_at s.extents p.extent + length_of c ≤ largest_pointer s.extents.geometry.format = grind (arith, nat_tests) in omega (arith, le, offset, largest))
          | inr nought ↦ (let small = sizes.2 in omega (arith, nought, offset, small))
        ];
        only = λ other t ne there same. elim (place.whose) [
          | inl own ↦ ne (now.single other p.slot t own.0 there (sym (says p.slot place.within) ∙ own.1) (same ∙ sym own.2))
          | inr new ↦ (let low = now.known other t there in
              let less : other < length s.slots = omega (arith, low, counts) in
              no_key_of c.key (slot_at s other) t (new.1 other less) (says other less ∙ there) same)
        ];
        same_key = λ t there. elim (place.whose) [
          | inl own ↦ (let same = some_fields t own.0 (sym there ∙ sym (says p.slot place.within) ∙ own.1) in ap (λ g. g.key) same ∙ own.2)
          | inr new ↦ absurd (let none : None ≡ Some t = sym new.0 ∙ says p.slot place.within ∙ there in cc)
        ];
      }

  -- A slot is cleared.
  pub clear_well : (s : Shelf) (made : List Made) (slot : ℕ) (f : SlotFields) → Good s first made
      → slot < length s.slots → slot_at s slot ≡ Some f
      → IsWellMade first (record { change = Clear slot; after = option_to_list s.last_delete }) made
  clear_well s made slot f good less says =
      let counts = good.holds.shelf.slots in
      let at : slot < slot_count (after_all first made).geometry = omega (arith, less, counts) in
      given.names first (record { change = Clear slot; after = option_to_list s.last_delete }) made good.well
      (record { known = at; fields = f; used = sym (good.holds.shelf.slot slot at) ∙ says })
      ((kept_are_named s first made good.holds.newest).1 slot (option_to_list s.last_delete) (has_kept (option_to_list s.last_delete) s.last_delete (λ n t. t)))

  -- An extent is set back that no slot names.
  pub reset_well : (s : Shelf) (made : List Made) (r generation : ℕ) → Good s first made → r < first.geometry.extents
      → generation < 2 ^ 32 → generation ≡ ((after_all first made).pointer r).generation + 1
      → ((slot : ℕ) (f : SlotFields) → (after_all first made).slot slot ≡ Some f → f.extent ≢ r)
      → IsWellMade first (record { change = Point r generation 0; after = left_of s r }) made
  reset_well s made r generation good known few raised unnamed =
      let extents = good.holds.extents in
      given.names first (record { change = Point r generation 0; after = left_of s r }) made good.well
      (record { known = omega (arith, known, extents); few = few; in_extent = omega arith; moved = inr (record { raised = raised; to_start = refl; unnamed = unnamed }) })
      ((kept_are_named s first made good.holds.newest).2 r generation 0 (left_of s r) known (in_index given first made sound good.well) (λ n t. t))
