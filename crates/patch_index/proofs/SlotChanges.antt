-- The orders of an index, as its slots change.
use Rattle.std.proofs.Common.{◌≡◌, ◌≢◌, ℕ, ◌<◌, ◌∙◌, inl, inr, true, false, List, [], ◌∷◌, ◌++◌, length, get_or, set, refl, sym, ap, subst, arith}
use Rattle.std.specs.Prelude.{◌==◌, ◌&&◌, nat_lt, Option, Some, None, is_some, is_none}
use Rattle.std.specs.List.{insert, remove}
use Rattle.std.proofs.lemmas.Bool.{cases_Bool, cases_order}
use Rattle.std.proofs.lemmas.Bool.Decides.{nat_tests}
use Rattle.std.proofs.lemmas.List.{length-set, get_or-set_same, get_or-set_other, get_or_past, get_or_append_left, length_push}
use Rattle.std.proofs.Math.Seq.{get_or-append_seam}
use Rattle.std.proofs.lemmas.List.Edits.{length-insert, length-remove}
use Rattle.patch_frame.specs.Slot.{SlotFields}
use Rattle.patch_index.specs.Orders.{comes_before, ranked, key_rank, place_rank, key_in, place_in, unranked, is_used, is_empty, IsOrder, IsPlace, AreOrders, ArePlaces, Rises}
use Rattle.patch_index.proofs.Found.{empty_of}
use Rattle.patch_index.proofs.Ranked.{IsChange, put_in_order, take_out_of_order, found_at, passes_at, one_self, alike, alike_order}

-- A slot that changes.

differs : (n s : ℕ) → (n == s) ≡ false → n ≢ s
differs n s off = λ is. let g : true ≡ false = sym (one_self s) ∙ ap (λ k. k == s) (sym is) ∙ off in cc

key_change : (slots : List (Option SlotFields)) (s : ℕ) (o : Option SlotFields) → IsChange (key_in slots) (key_in (set slots s o)) (is_used slots) (is_used (set slots s o)) s
key_change slots s o = record {
  ranks = λ n off. ap key_rank (get_or-set_other slots s n o None (differs n s off));
  others = λ n off. ap is_some (get_or-set_other slots s n o None (differs n s off));
}

place_change : (slots : List (Option SlotFields)) (s : ℕ) (o : Option SlotFields) → IsChange (place_in slots) (place_in (set slots s o)) (is_used slots) (is_used (set slots s o)) s
place_change slots s o = record {
  ranks = λ n off. ap place_rank (get_or-set_other slots s n o None (differs n s off));
  others = λ n off. ap is_some (get_or-set_other slots s n o None (differs n s off));
}

empty_change : (slots : List (Option SlotFields)) (s : ℕ) (o : Option SlotFields) → IsChange unranked unranked (is_empty slots) (is_empty (set slots s o)) s
empty_change slots s o = record {
  ranks = λ n off. refl;
  others = λ n off.
      ap (λ k. nat_lt n k && is_none (get_or (set slots s o) n None)) (length-set slots s o)
      ∙ ap (λ p. nat_lt n (length slots) && is_none p) (get_or-set_other slots s n o None (differs n s off));
}

below : (s n : ℕ) → s < n → nat_lt s n ≡ true
below s n less = grind (arith, nat_tests, less)

is_empty_at : (slots : List (Option SlotFields)) (s : ℕ) → s < length slots → get_or slots s None ≡ None → is_empty slots s ≡ true
is_empty_at slots s less is = ap (λ b. b && is_none (get_or slots s None)) (below s (length slots) less) ∙ ap is_none is

isnt_empty : (slots : List (Option SlotFields)) (s : ℕ) (f : SlotFields) → s < length slots → get_or slots s None ≡ Some f → is_empty slots s ≡ false
isnt_empty slots s f less is = ap (λ b. b && is_none (get_or slots s None)) (below s (length slots) less) ∙ ap is_none is

-- An empty slot is filled.

pub among_empty : (slots : List (Option SlotFields)) (s : ℕ) (empty by_key by_place : List ℕ) (e : ℕ) → AreOrders slots empty by_key by_place → s < length slots
    → get_or slots s None ≡ None → IsPlace unranked ([], s) empty e → (e < length empty) × (get_or empty e 0 ≡ s)
among_empty slots s empty by_key by_place e all less is place = found_at unranked (is_empty slots) empty s e all.empties (is_empty_at slots s less is) place

pub filled : (slots : List (Option SlotFields)) (s : ℕ) (f : SlotFields) (empty by_key by_place : List ℕ) (e k p : ℕ) → AreOrders slots empty by_key by_place
    → s < length slots → get_or slots s None ≡ None → ArePlaces slots s f empty by_key by_place e k p
    → AreOrders (set slots s (Some f)) (remove empty e) (insert by_key k s) (insert by_place p s)
filled slots s f empty by_key by_place e k p all less is at =
    let there = among_empty slots s empty by_key by_place e all less is at.empty_is in
    let within = there.0 in
    let now : get_or (set slots s (Some f)) s None ≡ Some f = get_or-set_same slots s (Some f) None less in
    let used : is_used (set slots s (Some f)) s ≡ true = ap is_some now in
    let unused : is_used slots s ≡ false = ap is_some is in
    let inside : s < length (set slots s (Some f)) = subst (λ n. s < n) (sym (length-set slots s (Some f))) less in
    let a = length-remove empty e within in
    let b = length-insert by_key k s at.key_is.within in
    let c = length-insert by_place p s at.place_is.within in
    let d = length-set slots s (Some f) in
    let counted = all.counted in
    let placed = all.placed in
    record {
      empties = take_out_of_order unranked unranked (is_empty slots) (is_empty (set slots s (Some f))) empty s e all.empties within there.1 (empty_change slots s (Some f))
          (isnt_empty (set slots s (Some f)) s f inside now);
      keys = put_in_order (key_in slots) (key_in (set slots s (Some f))) (is_used slots) (is_used (set slots s (Some f))) by_key s k all.keys unused (key_change slots s (Some f)) used
          (subst (λ r. IsPlace (key_in slots) (r, s) by_key k) (sym (ap key_rank now)) at.key_is);
      places =
          put_in_order (place_in slots) (place_in (set slots s (Some f))) (is_used slots) (is_used (set slots s (Some f))) by_place s p all.places unused (place_change slots s (Some f)) used
          (subst (λ r. IsPlace (place_in slots) (r, s) by_place p) (sym (ap place_rank now)) at.place_is);
      counted = omega (arith, a, b, d, counted);
      placed = omega (arith, b, c, placed);
    }

-- A used slot is emptied.

pub among_used : (slots : List (Option SlotFields)) (s : ℕ) (f : SlotFields) (empty by_key by_place : List ℕ) (e k p : ℕ) → AreOrders slots empty by_key by_place
    → get_or slots s None ≡ Some f → ArePlaces slots s f empty by_key by_place e k p
    → ((k < length by_key) × (get_or by_key k 0 ≡ s)) × ((p < length by_place) × (get_or by_place p 0 ≡ s))
among_used slots s f empty by_key by_place e k p all is at = (
  found_at (key_in slots) (is_used slots) by_key s k all.keys (ap is_some is) (subst (λ r. IsPlace (key_in slots) (r, s) by_key k) (sym (ap key_rank is)) at.key_is),
  found_at (place_in slots) (is_used slots) by_place s p all.places (ap is_some is)
      (subst (λ r. IsPlace (place_in slots) (r, s) by_place p) (sym (ap place_rank is)) at.place_is),
)

pub cleared : (slots : List (Option SlotFields)) (s : ℕ) (f : SlotFields) (empty by_key by_place : List ℕ) (e k p : ℕ) → AreOrders slots empty by_key by_place
    → s < length slots → get_or slots s None ≡ Some f → ArePlaces slots s f empty by_key by_place e k p
    → AreOrders (set slots s None) (insert empty e s) (remove by_key k) (remove by_place p)
cleared slots s f empty by_key by_place e k p all less is at =
    let there = among_used slots s f empty by_key by_place e k p all is at in
    let now : get_or (set slots s None) s None ≡ None = get_or-set_same slots s None None less in
    let unused : is_used (set slots s None) s ≡ false = ap is_some now in
    let inside : s < length (set slots s None) = subst (λ n. s < n) (sym (length-set slots s None)) less in
    let a = length-insert empty e s at.empty_is.within in
    let b = length-remove by_key k there.0.0 in
    let c = length-remove by_place p there.1.0 in
    let d = length-set slots s None in
    let counted = all.counted in
    let placed = all.placed in
    record {
      empties = put_in_order unranked unranked (is_empty slots) (is_empty (set slots s None)) empty s e all.empties (isnt_empty slots s f less is) (empty_change slots s None)
          (is_empty_at (set slots s None) s inside now) at.empty_is;
      keys = take_out_of_order (key_in slots) (key_in (set slots s None)) (is_used slots) (is_used (set slots s None)) by_key s k all.keys there.0.0 there.0.1 (key_change slots s None) unused;
      places =
          take_out_of_order (place_in slots) (place_in (set slots s None)) (is_used slots) (is_used (set slots s None)) by_place s p all.places there.1.0 there.1.1 (place_change slots s None) unused;
      counted = omega (arith, a, b, d, counted);
      placed = omega (arith, b, c, placed);
    }

-- A used slot gets another frame of its key.

pub among_places : (slots : List (Option SlotFields)) (s : ℕ) (f : SlotFields) (empty by_key by_place : List ℕ) (p : ℕ) → AreOrders slots empty by_key by_place
    → get_or slots s None ≡ Some f → IsPlace (place_in slots) (place_rank (Some f), s) by_place p → (p < length by_place) × (get_or by_place p 0 ≡ s)
among_places slots s f empty by_key by_place p all is place =
    found_at (place_in slots) (is_used slots) by_place s p all.places (ap is_some is) (subst (λ r. IsPlace (place_in slots) (r, s) by_place p) (sym (ap place_rank is)) place)

-- the other slots by place
pub others_by_place : (slots : List (Option SlotFields)) (s : ℕ) (f : SlotFields) (empty by_key by_place : List ℕ) (p : ℕ) → AreOrders slots empty by_key by_place → s < length slots
    → get_or slots s None ≡ Some f → IsPlace (place_in slots) (place_rank (Some f), s) by_place p → IsOrder (place_in slots) (is_used (set slots s None)) (remove by_place p)
others_by_place slots s f empty by_key by_place p all less is place =
    let there = among_places slots s f empty by_key by_place p all is place in
    take_out_of_order (place_in slots) (place_in slots) (is_used slots) (is_used (set slots s None)) by_place s p all.places there.0 there.1
    (record { ranks = λ n off. refl; others = (place_change slots s None).others }) (ap is_some (get_or-set_same slots s None None less))

pub refilled : (slots : List (Option SlotFields)) (s : ℕ) (f g : SlotFields) (empty by_key by_place : List ℕ) (p q : ℕ) → AreOrders slots empty by_key by_place → s < length slots
    → get_or slots s None ≡ Some f → g.key ≡ f.key → IsPlace (place_in slots) (place_rank (Some f), s) by_place p
    → IsPlace (place_in slots) (place_rank (Some g), s) (remove by_place p) q → AreOrders (set slots s (Some g)) empty by_key (insert (remove by_place p) q s)
refilled slots s f g empty by_key by_place p q all less is key from to =
    let there = among_places slots s f empty by_key by_place p all is from in
    let now : get_or (set slots s (Some g)) s None ≡ Some g = get_or-set_same slots s (Some g) None less in
    let none : get_or (set slots s None) s None ≡ None = get_or-set_same slots s None None less in
    let inside : s < length (set slots s (Some g)) = subst (λ n. s < n) (sym (length-set slots s (Some g))) less in
    let a = length-remove by_place p there.0 in
    let b = length-insert (remove by_place p) q s to.within in
    let c = length-set slots s (Some g) in
    let some = there.0 in
    let counted = all.counted in
    let placed = all.placed in
    record {
      empties = alike_order unranked unranked (is_empty slots) (is_empty (set slots s (Some g))) empty (λ n. refl)
          (λ n. elim (cases_Bool (n == s)) [
            | inl same ↦ ap (is_empty (set slots s (Some g))) (alike n s same) ∙ isnt_empty (set slots s (Some g)) s g inside now ∙ sym (isnt_empty slots s f less is) ∙ sym (ap (is_empty slots) (alike n s same))
            | inr off ↦ (empty_change slots s (Some g)).others n off
          ]) all.empties;
      keys = alike_order (key_in slots) (key_in (set slots s (Some g))) (is_used slots) (is_used (set slots s (Some g))) by_key
          (λ n. elim (cases_Bool (n == s)) [
            | inl same ↦ ap (key_in (set slots s (Some g))) (alike n s same) ∙ ap key_rank now ∙ key ∙ sym (ap key_rank is) ∙ sym (ap (key_in slots) (alike n s same))
            | inr off ↦ (key_change slots s (Some g)).ranks n off
          ])
          (λ n. elim (cases_Bool (n == s)) [
            | inl same ↦ ap (is_used (set slots s (Some g))) (alike n s same) ∙ ap is_some now ∙ sym (ap is_some is) ∙ sym (ap (is_used slots) (alike n s same))
            | inr off ↦ (key_change slots s (Some g)).others n off
          ]) all.keys;
      places =
          put_in_order (place_in slots) (place_in (set slots s (Some g))) (is_used (set slots s None)) (is_used (set slots s (Some g))) (remove by_place p) s q
          (others_by_place slots s f empty by_key by_place p all less is from) (ap is_some none)
          (record {
            ranks = (place_change slots s (Some g)).ranks;
            others = λ n off. (place_change slots s (Some g)).others n off ∙ sym ((place_change slots s None).others n off);
          }) (ap is_some now) (subst (λ r. IsPlace (place_in slots) (r, s) (remove by_place p) q) (sym (ap place_rank now)) to);
      counted = omega (arith, c, counted);
      placed = omega (arith, a, b, some, placed);
    }

-- An empty slot more.

same_pushed : (slots : List (Option SlotFields)) (n : ℕ) → get_or (slots ++ None ∷ []) n None ≡ get_or slots n None
same_pushed slots n = elim (cases_order n (length slots)) [
  | inl last ↦
      let long = length_push slots None in
      ap (λ k. get_or (slots ++ None ∷ []) k None) last ∙ get_or-append_seam slots None [] None ∙ sym (get_or_past slots n None (omega (arith, last)))
  | inr (inl less) ↦ get_or_append_left slots (None ∷ []) None n less
  | inr (inr more) ↦
      let long = length_push slots None in
      get_or_past (slots ++ None ∷ []) n None (omega (arith, long, more)) ∙ sym (get_or_past slots n None (omega (arith, more)))
]

pub lengthened : (slots : List (Option SlotFields)) (empty by_key by_place : List ℕ) → AreOrders slots empty by_key by_place
    → AreOrders (slots ++ None ∷ []) (insert empty (length empty) (length slots)) by_key by_place
lengthened slots empty by_key by_place all =
    let s : ℕ = length slots in
    let long = length_push slots None in
    let more = length-insert empty (length empty) s (omega arith) in
    let counted = all.counted in
    record {
      empties =
          put_in_order unranked unranked (is_empty slots) (is_empty (slots ++ None ∷ [])) empty s (length empty) all.empties
          (let past : nat_lt s (length slots) ≡ false = grind (arith, nat_tests) in ap (λ b. b && is_none (get_or slots s None)) past)
          (record {
            ranks = λ n off. refl;
            others = λ n off.
                ap (λ o. nat_lt n (length (slots ++ None ∷ [])) && is_none o) (same_pushed slots n)
                ∙ ap (λ b. b && is_none (get_or slots n None)) (let e : nat_lt n (length (slots ++ None ∷ [])) ≡ nat_lt n (length slots) = grind (arith, nat_tests, long, off) in e);
          })
          (is_empty_at (slots ++ None ∷ []) s (omega (arith, long)) (get_or-append_seam slots None [] None))
          (record {
            within = omega arith;
            point = (
              λ k d low less. low_first (get_or empty k d) s (empty_of slots (get_or empty k d) (passes_at unranked (is_empty slots) empty all.empties k d less)).0,
              λ k d low less. absurd (omega (arith, low, less)),
            );
          });
      keys = record {
        rises = λ i j d less within. ap (λ r. comes_before r (ranked (key_in (slots ++ None ∷ [])) (get_or by_key j d))) (key_same (get_or by_key i d))
            ∙ ap (λ r. comes_before (ranked (key_in slots) (get_or by_key i d)) r) (key_same (get_or by_key j d)) ∙ all.keys.rises i j d less within;
        members = λ n. all.keys.members n ∙ ap is_some (sym (same_pushed slots n));
      };
      places = record {
        rises = λ i j d less within. ap (λ r. comes_before r (ranked (place_in (slots ++ None ∷ [])) (get_or by_place j d))) (place_same (get_or by_place i d))
            ∙ ap (λ r. comes_before (ranked (place_in slots) (get_or by_place i d)) r) (place_same (get_or by_place j d)) ∙ all.places.rises i j d less within;
        members = λ n. all.places.members n ∙ ap is_some (sym (same_pushed slots n));
      };
      counted = omega (arith, more, long, counted);
      placed = all.placed;
    }
  where
    low_first : (x n : ℕ) → x < n → comes_before ([], x) ([], n) ≡ true
    low_first x n less = grind (arith, nat_tests, less)

    key_same : (n : ℕ) → ranked (key_in (slots ++ None ∷ [])) n ≡ ranked (key_in slots) n
    key_same n = ap (λ o. (key_rank o, n)) (same_pushed slots n)

    place_same : (n : ℕ) → ranked (place_in (slots ++ None ∷ [])) n ≡ ranked (place_in slots) n
    place_same n = ap (λ o. (place_rank o, n)) (same_pushed slots n)

-- of equal lists
pub same_rise : (slots others : List (Option SlotFields)) (ps by_place : List ℕ) → slots ≡ others → ps ≡ by_place → Rises (place_in slots) ps → Rises (place_in others) by_place
same_rise slots others ps by_place a b rises = subst (λ x. Rises (place_in others) x) b (subst (λ x. Rises (place_in x) ps) a rises)

pub same_place : (slots others : List (Option SlotFields)) (ps by_place : List ℕ) (it : List ℕ × ℕ) (p : ℕ) → slots ≡ others → ps ≡ by_place → IsPlace (place_in slots) it ps p
    → IsPlace (place_in others) it by_place p
same_place slots others ps by_place it p a b at = subst (λ x. IsPlace (place_in others) it x p) b (subst (λ x. IsPlace (place_in x) it ps p) a at)

pub same_places : (slots others : List (Option SlotFields)) (s : ℕ) (f : SlotFields) (es empty ks by_key ps by_place : List ℕ) (e k p : ℕ)
    → slots ≡ others → es ≡ empty → ks ≡ by_key → ps ≡ by_place → ArePlaces slots s f es ks ps e k p → ArePlaces others s f empty by_key by_place e k p
same_places slots others s f es empty ks by_key ps by_place e k p a b c d at =
    subst (λ x. ArePlaces others s f empty by_key x e k p) d
    (subst (λ x. ArePlaces others s f empty x ps e k p) c
    (subst (λ x. ArePlaces others s f x ks ps e k p) b
    (subst (λ x. ArePlaces x s f es ks ps e k p) a at)))

pub same_orders : (slots others : List (Option SlotFields)) (es empty ks by_key ps by_place : List ℕ)
    → slots ≡ others → es ≡ empty → ks ≡ by_key → ps ≡ by_place → AreOrders slots es ks ps → AreOrders others empty by_key by_place
same_orders slots others es empty ks by_key ps by_place a b c d all =
    subst (λ x. AreOrders others empty by_key x) d
    (subst (λ x. AreOrders others empty x ps) c
    (subst (λ x. AreOrders others x ks ps) b
    (subst (λ x. AreOrders x es ks ps) a all)))
