-- How many used slots stand before one, by the empty ones.
use Rattle.std.proofs.Common.{◌≡◌, ◌≢◌, ℕ, zero, suc, ◌+◌, ◌<◌, ◌≤◌, ◌⊎◌, ◌∙◌, Equal, inl, inr, List, [], ◌∷◌, Option, length, take, get_or, refl, sym, ap, subst, arith}
use Rattle.std.specs.Prelude.{Some, None, is_some, is_none, slice_get}
use Rattle.std.proofs.lemmas.Bool.{cases_order}
use Rattle.std.proofs.lemmas.List.{length-append, take_more, take_all}
use Rattle.std.proofs.lemmas.Option.{slice_get_past}
use Rattle.patch_frame.specs.Slot.{SlotFields}
use Rattle.patch_index.specs.Orders.{Rises, IsOrder, IsBehind, unranked, is_empty}
use Rattle.patch_index.specs.Reporting.{of_slot, of_slots}
use Rattle.patch_index.proofs.Found.{in_range, empty_of, empty_from, tied_below}
use Rattle.patch_index.proofs.Ranked.{passes_at, stands}
use Rattle.patch_index.proofs.Reported.{slots_push, at_slot}

-- Numbers that rise.

side : (a b : ℕ) → (a < b) ⊎ (b ≤ a)
side a b = elim (cases_order a b) [
  | inl same ↦ inr (omega (arith, same))
  | inr o ↦ elim o [ inl less ↦ inl less | inr more ↦ inr (omega (arith, more)) ]
]

rising : (xs : List ℕ) → Rises unranked xs → (i j : ℕ) → i < j → j < length xs → get_or xs i 0 < get_or xs j 0
rising xs rises i j less within = tied_below Equal (get_or xs i 0) (get_or xs j 0) refl (rises i j 0 less within)

-- each is above the one before it
pub steep : (xs : List ℕ) → Rises unranked xs → (i k : ℕ) → i + k < length xs → get_or xs i 0 + k ≤ get_or xs (i + k) 0
steep xs rises i zero within = let e : i + 0 ≡ i = omega arith in subst (λ j. get_or xs i 0 + 0 ≤ get_or xs j 0) (sym e) (omega arith)
steep xs rises i (suc k) within =
    let e : i + suc k ≡ suc (i + k) = omega arith in
    let before = steep xs rises i k (omega (arith, within)) in
    let up = rising xs rises (i + k) (suc (i + k)) (omega arith) (omega (arith, within)) in
    subst (λ j. get_or xs i 0 + suc k ≤ get_or xs j 0) (sym e) (omega (arith, before, up))

-- The empty slots below one.

record IsCut (empty : List ℕ) (slot count : ℕ) : Type 0 where
  within : count ≤ length empty
  below : (i : ℕ) → i < count → get_or empty i 0 < slot
  above : (i : ℕ) → count ≤ i → i < length empty → slot ≤ get_or empty i 0

-- a slot is empty or used
used_or_not : (o : Option SlotFields) → (o ≡ None) ⊎ ((f : SlotFields) × (o ≡ Some f))
used_or_not None = inl refl
used_or_not (Some f) = inr (f, refl)

taken_more : (slots : List (Option SlotFields)) (s : ℕ) → s < length slots → (o : Option SlotFields) → get_or slots s None ≡ o
    → length (of_slots (take (suc s) slots)) ≡ length (of_slots (take s slots)) + length (of_slots (o ∷ []))
taken_more slots s less o is =
    let e : suc s ≡ s + 1 = omega arith in
    ap (λ n. length (of_slots (take n slots))) e ∙ ap (λ xs. length (of_slots xs)) (take_more slots s None less) ∙ ap length (slots_push (take s slots) (get_or slots s None))
    ∙ length-append (of_slots (take s slots)) (of_slots (get_or slots s None ∷ []))
    ∙ ap (λ p. length (of_slots (take s slots)) + length (of_slots (p ∷ []))) is

-- those that are used and those that are empty are all below it
counted : (slots : List (Option SlotFields)) (empty : List ℕ) → IsOrder unranked (is_empty slots) empty
    → (s c : ℕ) → s ≤ length slots → IsCut empty s c → length (of_slots (take s slots)) + c ≡ s
counted slots empty o zero zero upto cut = refl
counted slots empty o zero (suc c) upto cut = let none = cut.below 0 (omega arith) in absurd (omega (arith, none))
counted slots empty o (suc s) c upto cut = elim (used_or_not (get_or slots s None)) [
  | inl none ↦
      let there = stands unranked (is_empty slots) empty o s (empty_from slots s upto (ap is_none none)) in
      let j = there.at in
      let is = there.is in
      let inside = there.within in
      let low : j < c = elim (side j c) [ inl l ↦ l | inr g ↦ let past = cut.above j g inside in absurd (omega (arith, past, is)) ] in
      let last : c ≡ j + 1 = elim (side (j + 1) c) [
        | inl l ↦
            let up = rising empty o.rises j (j + 1) (omega arith) (omega (arith, l, cut.within)) in
            let below = cut.below (j + 1) l in
            absurd (omega (arith, up, below, is))
        | inr g ↦ omega (arith, low, g)
      ] in
      let before = counted slots empty o s j (omega (arith, upto)) (record {
        within = omega (arith, inside);
        below = λ i less. let up = rising empty o.rises i j less inside in omega (arith, up, is);
        above = λ i from within. elim (side j i) [
          | inl more ↦ let up = rising empty o.rises j i more within in omega (arith, up, is)
          | inr same ↦ let e : i ≡ j = omega (arith, same, from) in subst (λ k. s ≤ get_or empty k 0) (sym e) (omega (arith, is))
        ];
      }) in
      let more = taken_more slots s upto None none in
      omega (arith, before, more, last)
  | inr used ↦
      let off : (i : ℕ) → i < length empty → get_or empty i 0 ≢ s = λ i inside same.
      let passes = ap (is_empty slots) (sym same) ∙ passes_at unranked (is_empty slots) empty o i 0 inside in
      let is = sym (ap is_none used.1) ∙ (empty_of slots s passes).1 in absurd (cc) in
      let before = counted slots empty o s c (omega (arith, upto)) (record {
        within = cut.within;
        below = λ i less. let b = cut.below i less in let d = off i (omega (arith, less, cut.within)) in omega (arith, b, d);
        above = λ i from within. let a = cut.above i from within in omega (arith, a);
      }) in
      let more = taken_more slots s upto (Some used.0) used.1 in
      omega (arith, before, more)
]

-- What is reported.

pub used_at : (slots : List (Option SlotFields)) (empty : List ℕ) → IsOrder unranked (is_empty slots) empty
    → (number slot : ℕ) → IsBehind empty number slot → (f : SlotFields) → get_or slots slot None ≡ Some f → slice_get (of_slots slots) number ≡ Some (of_slot f)
used_at slots empty o number slot b f is =
    let within = in_range slots slot (ap is_some is) in
    let count = counted slots empty o slot b.count (omega (arith, within)) (record {
      within = b.within;
      below = b.below;
      above = λ i from inside. let a = b.above i from inside in omega (arith, a);
    }) in
    let at : length (of_slots (take slot slots)) ≡ number = omega (arith, count, b.is) in
    ap (slice_get (of_slots slots)) (sym at) ∙ at_slot slots slot f is

-- the slots are the used and the empty ones
pub all_counted : (slots : List (Option SlotFields)) (empty : List ℕ) → IsOrder unranked (is_empty slots) empty
    → length (of_slots slots) + length empty ≡ length slots
all_counted slots empty o =
    let all = counted slots empty o (length slots) (length empty) (omega arith) (record {
      within = omega arith;
      below = λ i less. (empty_of slots (get_or empty i 0) (passes_at unranked (is_empty slots) empty o i 0 less)).0;
      above = λ i from inside. absurd (omega (arith, from, inside));
    }) in
    let whole = ap (λ xs. length (of_slots xs)) (take_all (length slots) slots (omega arith)) in
    omega (arith, all, whole)

pub none_at : (slots : List (Option SlotFields)) (empty : List ℕ) → IsOrder unranked (is_empty slots) empty
    → (number slot : ℕ) → IsBehind empty number slot → get_or slots slot None ≡ None → slice_get (of_slots slots) number ≡ None
none_at slots empty o number slot b none =
    let past : length slots ≤ slot = elim (side slot (length slots)) [
      | inl within ↦
          let there = stands unranked (is_empty slots) empty o slot (empty_from slots slot within (ap is_none none)) in
          elim (side there.at b.count) [
            | inl l ↦ let low = b.below there.at l in absurd (omega (arith, low, there.is))
            | inr g ↦ let high = b.above there.at g there.within in absurd (omega (arith, high, there.is))
          ]
      | inr g ↦ g
    ] in
    let all = all_counted slots empty o in
    slice_get_past (of_slots slots) number (omega (arith, all, past, b.is, b.within))
