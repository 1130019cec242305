-- The slot of a key, and the lowest empty slot, by orders.
use Rattle.std.proofs.Common.{◌≡◌, ℕ, ◌<◌, ◌≤◌, ◌∙◌, inl, inr, Ordering, Less, Equal, Greater, Bool, true, false, List, [], ◌∷◌, length, get_or, refl, sym, ap, arith}
use Rattle.std.specs.Prelude.{Option, Some, None, ◌==◌, ◌&&◌, nat_lt, position, is_none, is_some}
use Rattle.std.specs.Cmp.Lexicographic.{slice_cmp}
use Rattle.std.specs.Ordering.{ordering_then, nat_cmp, is_lt, is_eq}
use Rattle.std.specs.List.{slice_get}
use Rattle.std.specs.Str.{bytes_eq}
use Rattle.std.proofs.lemmas.Bool.{cases_Bool, cases_order}
use Rattle.std.proofs.lemmas.Bool.Decides.{nat_tests}
use Rattle.std.proofs.lemmas.List.{get_or_past}
use Rattle.std.proofs.lemmas.List.Sums.{position_or_len_is}
use Rattle.std.proofs.lemmas.Slice.Eq.{bytes_eq-Decides}
use Rattle.std.proofs.lemmas.Map.Text.{is_eq-slice_cmp}
use Rattle.patch_frame.specs.Slot.{SlotFields}
use Rattle.patch_recovery.specs.Reading.{has_key}
use Rattle.patch_index.specs.Orders.{comes_before, ranked, key_rank, key_in, unranked, is_used, is_empty, IsOrder, IsPlace}
use Rattle.patch_index.proofs.Ranked.{passes_at, stands}

-- the first slot that passes a test
pub first_at : (p : Option SlotFields → Bool) (slots : List (Option SlotFields)) (s : ℕ) → s < length slots → p (get_or slots s None) ≡ true
    → ((k : ℕ) → k < s → p (get_or slots k None) ≡ false) → position p slots ≡ Some s
first_at p slots s within here before =
    let at = position_or_len_is p slots s None (omega (arith, within)) before (λ _. here) in
    let inside : nat_lt s (length slots) ≡ true = grind (arith, nat_tests, within) in
    rw (at, inside) refl

pub none_at : (p : Option SlotFields → Bool) (slots : List (Option SlotFields)) → ((k : ℕ) → k < length slots → p (get_or slots k None) ≡ false) → position p slots ≡ None
none_at p slots none =
    let at = position_or_len_is p slots (length slots) None (omega arith) none (λ less. absurd (omega (arith, less))) in
    let past : nat_lt (length slots) (length slots) ≡ false = grind (arith, nat_tests) in
    rw (at, past) refl

is_not : (b : Bool) → (b ≡ true → ⊥) → b ≡ false
is_not true isnt = absurd (isnt refl)
is_not false isnt = refl

pub in_range : (slots : List (Option SlotFields)) (s : ℕ) → is_used slots s ≡ true → s < length slots
in_range slots s used = elim (cases_Bool (nat_lt s (length slots))) [
  | inl less ↦ grind (arith, nat_tests, less)
  | inr past ↦
      let up : length slots ≤ s = grind (arith, nat_tests, past) in
      let g : true ≡ false = sym used ∙ ap is_some (get_or_past slots s None up) in
      absurd (cc)
]

-- Keys.

key_of : (key : List ℕ) (o : Option SlotFields) → has_key key o ≡ true → (is_some o ≡ true) × (is_eq (slice_cmp nat_cmp (key_rank o) key) ≡ true)
key_of key None is = absurd (let g : false ≡ true = is in cc)
key_of key (Some f) is = (refl, is_eq-slice_cmp f.key key ∙ is)

key_back : (key : List ℕ) (o : Option SlotFields) → is_some o ≡ true → bytes_eq (key_rank o) key ≡ true → has_key key o ≡ true
key_back key None used is = absurd (let g : false ≡ true = used in cc)
key_back key (Some f) used is = is

bytes_are : (xs ys : List ℕ) → bytes_eq xs ys ≡ true → xs ≡ ys
bytes_are xs ys is = (bytes_eq-Decides xs ys).0 is

-- a rank that is the key's doesn't come before it, and one that does not come before it, and isn't it, lies behind
not_below : (o : Ordering) (n : ℕ) → is_eq o ≡ true → is_lt (ordering_then o (nat_cmp n 0)) ≡ false
not_below Less n is = absurd (let g : false ≡ true = is in cc)
not_below Equal n is = grind (arith, nat_tests)
not_below Greater n is = absurd (let g : false ≡ true = is in cc)

pub tied_below : (o : Ordering) (n m : ℕ) → is_eq o ≡ true → is_lt (ordering_then o (nat_cmp n m)) ≡ true → n < m
tied_below Less n m tie is = absurd (let g : false ≡ true = tie in cc)
tied_below Equal n m tie is = grind (arith, nat_tests, is)
tied_below Greater n m tie is = absurd (let g : false ≡ true = tie in cc)

behind_all : (o : Ordering) (n m : ℕ) → is_lt (ordering_then o (nat_cmp n 0)) ≡ false → is_eq o ≡ false → is_lt (ordering_then o (nat_cmp n m)) ≡ false
behind_all Less n m off apart = off
behind_all Equal n m off apart = absurd (let g : true ≡ false = apart in cc)
behind_all Greater n m off apart = refl

-- a slot that has the key stands at the place or behind it
key_stands : (slots : List (Option SlotFields)) (order : List ℕ) (key : List ℕ) (at : ℕ) → IsOrder (key_in slots) (is_used slots) order → IsPlace (key_in slots) (key, 0) order at
    → (k : ℕ) → has_key key (get_or slots k None) ≡ true
    → (j : ℕ) × (at ≤ j) × (j < length order) × (get_or order j 0 ≡ k) × (is_eq (slice_cmp nat_cmp (key_in slots k) key) ≡ true)
key_stands slots order key at o place k has =
    let of = key_of key (get_or slots k None) has in
    let there = stands (key_in slots) (is_used slots) order o k of.0 in
    elim (cases_Bool (nat_lt there.at at)) [
      | inl under ↦
          let g : true ≡ false =
          sym (place.point.0 there.at 0 (omega arith) (grind (arith, nat_tests, under)))
          ∙ ap (λ x. comes_before (ranked (key_in slots) x) (key, 0)) there.is ∙ not_below (slice_cmp nat_cmp (key_in slots k) key) k of.1 in
          absurd (cc)
      | inr over ↦ (there.at, grind (arith, nat_tests, over), there.within, there.is, of.1)
    ]

pub key_is_at : (slots : List (Option SlotFields)) (order : List ℕ) (key : List ℕ) (at : ℕ) → IsOrder (key_in slots) (is_used slots) order → IsPlace (key_in slots) (key, 0) order at
    → at < length order → bytes_eq (key_in slots (get_or order at 0)) key ≡ true → position (has_key key) slots ≡ Some (get_or order at 0)
key_is_at slots order key at o place within is =
    let s : ℕ = get_or order at 0 in
    let used : is_used slots s ≡ true = passes_at (key_in slots) (is_used slots) order o at 0 within in
    let tie : is_eq (slice_cmp nat_cmp (key_in slots s) key) ≡ true = is_eq-slice_cmp (key_in slots s) key ∙ is in
    first_at (has_key key) slots s (in_range slots s used) (key_back key (get_or slots s None) used is)
    (λ k less. is_not (has_key key (get_or slots k None)) (λ has.
    let there = key_stands slots order key at o place k has in
    elim (cases_order there.0 at) [
      | inl here ↦ let e : k ≡ s = sym there.3 ∙ ap (λ j. get_or order j 0) here in omega (arith, e, less)
      | inr (inl under) ↦ let low = there.1 in omega (arith, under, low)
      | inr (inr over) ↦
          let rise : comes_before (ranked (key_in slots) s) (ranked (key_in slots) k) ≡ true =
          ap (λ x. comes_before (ranked (key_in slots) s) (ranked (key_in slots) x)) (sym there.3) ∙ o.rises at there.0 0 over there.2 in
          let one : bytes_eq (key_in slots k) key ≡ true = sym (is_eq-slice_cmp (key_in slots k) key) ∙ there.4 in
          let same : is_eq (slice_cmp nat_cmp (key_in slots s) (key_in slots k)) ≡ true =
          is_eq-slice_cmp (key_in slots s) (key_in slots k)
          ∙ ap (bytes_eq (key_in slots s)) (bytes_are (key_in slots k) key one) ∙ is in
          let more : s < k = tied_below (slice_cmp nat_cmp (key_in slots s) (key_in slots k)) s k same rise in
          omega (arith, more, less)
    ]))

pub key_is_nowhere : (slots : List (Option SlotFields)) (order : List ℕ) (key : List ℕ) (at : ℕ) → IsOrder (key_in slots) (is_used slots) order → IsPlace (key_in slots) (key, 0) order at
    → (at < length order → bytes_eq (key_in slots (get_or order at 0)) key ≡ false) → position (has_key key) slots ≡ None
key_is_nowhere slots order key at o place off =
    none_at (has_key key) slots (λ k less. is_not (has_key key (get_or slots k None)) (λ has.
    let there = key_stands slots order key at o place k has in
    let low = there.1 in
    let high = there.2 in
    let within : at < length order = omega (arith, low, high) in
    let s : ℕ = get_or order at 0 in
    let one : bytes_eq (key_in slots k) key ≡ true = sym (is_eq-slice_cmp (key_in slots k) key) ∙ there.4 in
    elim (cases_order there.0 at) [
      | inl here ↦
          let e : s ≡ k = sym (ap (λ j. get_or order j 0) here) ∙ there.3 in
          let g : false ≡ true = sym (off within) ∙ ap (λ n. bytes_eq (key_in slots n) key) e ∙ one in
          cc
      | inr (inl under) ↦ omega (arith, under, low)
      | inr (inr over) ↦
          let rise : comes_before (ranked (key_in slots) s) (ranked (key_in slots) k) ≡ true =
          ap (λ x. comes_before (ranked (key_in slots) s) (ranked (key_in slots) x)) (sym there.3) ∙ o.rises at there.0 0 over high in
          let fails : comes_before (ranked (key_in slots) s) (key_in slots k, k) ≡ false =
          ap (λ r. comes_before (ranked (key_in slots) s) (r, k)) (bytes_are (key_in slots k) key one)
          ∙ behind_all (slice_cmp nat_cmp (key_in slots s) key) s k (place.point.1 at 0 (omega arith) within) (is_eq-slice_cmp (key_in slots s) key ∙ off within) in
          let g : true ≡ false = sym rise ∙ fails in
          cc
    ]))

-- The lowest empty slot.

pub empty_of : (slots : List (Option SlotFields)) (k : ℕ) → is_empty slots k ≡ true → (k < length slots) × (is_none (get_or slots k None) ≡ true)
empty_of slots k is = elim (cases_Bool (nat_lt k (length slots))) [
  | inl less ↦ (grind (arith, nat_tests, less), sym (ap (λ b. b && is_none (get_or slots k None)) less) ∙ is)
  | inr past ↦ let g : false ≡ true = sym (ap (λ b. b && is_none (get_or slots k None)) past) ∙ is in absurd (cc)
]

pub empty_from : (slots : List (Option SlotFields)) (k : ℕ) → k < length slots → is_none (get_or slots k None) ≡ true → is_empty slots k ≡ true
empty_from slots k less is = let inside : nat_lt k (length slots) ≡ true = grind (arith, nat_tests, less) in rw (inside, is) refl

pub first_empty : (slots : List (Option SlotFields)) (order : List ℕ) → IsOrder unranked (is_empty slots) order → 0 < length order → position is_none slots ≡ Some (get_or order 0 0)
first_empty slots order o some =
    let s : ℕ = get_or order 0 0 in
    let of = empty_of slots s (passes_at unranked (is_empty slots) order o 0 0 some) in
    first_at is_none slots s of.0 of.1 (λ k less. is_not (is_none (get_or slots k None)) (λ has.
    let high = of.0 in
    let there = stands unranked (is_empty slots) order o k (empty_from slots k (omega (arith, less, high)) has) in
    elim (cases_Bool (there.at == 0)) [
      | inl zero ↦
          let z : there.at ≡ 0 = grind (arith, nat_tests, zero) in
          let e : k ≡ s = sym there.is ∙ ap (λ j. get_or order j 0) z in
          omega (arith, e, less)
      | inr more ↦
          let z : 0 < there.at = grind (arith, nat_tests, more) in
          let rise : comes_before (ranked unranked s) (ranked unranked k) ≡ true =
          ap (λ x. comes_before (ranked unranked s) (ranked unranked x)) (sym there.is) ∙ o.rises 0 there.at 0 z there.within in
          let up : s < k = tied_below Equal s k refl rise in
          omega (arith, up, less)
    ]))

pub none_empty : (slots : List (Option SlotFields)) (order : List ℕ) → IsOrder unranked (is_empty slots) order → length order ≡ 0 → position is_none slots ≡ None
none_empty slots order o none =
    none_at is_none slots (λ k less. is_not (is_none (get_or slots k None)) (λ has.
    let there = stands unranked (is_empty slots) order o k (empty_from slots k less has) in
    let within = there.within in
    omega (arith, within, none)))

pub some_first : (xs : List ℕ) (x : ℕ) → slice_get xs 0 ≡ Some x → 0 < length xs
some_first [] x is = absurd (let g : None ≡ Some x = is in cc)
some_first (y ∷ ys) x is = omega arith

pub none_first : (xs : List ℕ) → slice_get xs 0 ≡ None → length xs ≡ 0
none_first [] is = refl
none_first (y ∷ ys) is = absurd (let g : Some y ≡ None = is in cc)
