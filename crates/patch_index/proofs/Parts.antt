-- The slots that name an extent are a part of the order by place.
use Rattle.std.proofs.Common.{◌≡◌, ℕ, ◌+◌, ◌-◌, ◌<◌, ◌≤◌, ◌∙◌, inl, inr, Less, Equal, Greater, Ordering, Bool, true, false, List, [], ◌∷◌, length, get_or, refl, sym, ap, arith}
use Rattle.std.specs.Prelude.{◌==◌, nat_lt, nat_le, Option, Some, None, is_some}
use Rattle.std.specs.List.{between}
use Rattle.std.specs.Ordering.{nat_cmp, is_lt, ordering_then}
use Rattle.std.proofs.lemmas.Bool.{cases_Bool, cases_order}
use Rattle.std.proofs.lemmas.Bool.Decides.{nat_tests}
use Rattle.std.proofs.lemmas.List.{get_or_default}
use Rattle.std.proofs.lemmas.List.Edits.{length-between, get_or-between}
use Rattle.std.proofs.lemmas.List.Folds.{Any-from_list_any, list_any_at}
use Rattle.patch_frame.specs.Slot.{SlotFields}
use Rattle.patch_index.specs.Live.{live_behind}
use Rattle.patch_index.specs.Orders.{comes_before, ranked, holds, place_rank, place_in, is_used, IsOrder, IsPlace}
use Rattle.patch_index.proofs.Alone.{alone, part_rises}
use Rattle.patch_index.proofs.Framed.{names, live_is_order}
use Rattle.patch_index.proofs.Ranked.{alike, one_self, passes_at, stands}

abbrev cond_of : Bool → Ordering
cond_of true = Equal
cond_of false = Greater

zero_cmp : (n : ℕ) → nat_cmp n 0 ≡ cond_of (n == 0)
zero_cmp n = elim (cases_Bool (n == 0)) [
  | inl is ↦ let c : nat_cmp n 0 ≡ Equal = grind (arith, nat_tests, is) in rw (c, is) refl
  | inr off ↦ let c : nat_cmp n 0 ≡ Greater = grind (arith, nat_tests, off) in rw (c, off) refl
]

neither : (b m : Bool) → is_lt (ordering_then (ordering_then (cond_of b) Equal) (cond_of m)) ≡ false
neither true true = refl
neither true false = refl
neither false m = refl

-- the start of an extent: what comes before it lies in a lower one
at_start : (x o n e : ℕ) → comes_before (x ∷ o ∷ [], n) (e ∷ 0 ∷ [], 0) ≡ nat_lt x e
at_start x o n e = elim (cases_order x e) [
  | inl tie ↦
      let c : nat_cmp x e ≡ Equal = grind (arith, nat_tests, tie) in
      let l : nat_lt x e ≡ false = grind (arith, nat_tests, tie) in
      let m : nat_cmp n 0 ≡ cond_of (n == 0) = zero_cmp n in
      let b : nat_cmp o 0 ≡ cond_of (o == 0) = zero_cmp o in
      rw (c, l, m, b) (neither (o == 0) (n == 0))
  | inr (inl less) ↦
      let c : nat_cmp x e ≡ Less = grind (arith, nat_tests, less) in
      let l : nat_lt x e ≡ true = grind (arith, nat_tests, less) in
      rw (c, l) refl
  | inr (inr more) ↦
      let c : nat_cmp x e ≡ Greater = grind (arith, nat_tests, more) in
      let l : nat_lt x e ≡ false = grind (arith, nat_tests, more) in
      rw (c, l) refl
]

names_of : (extent : ℕ) (o : Option SlotFields) → names extent o ≡ true → (off : ℕ) × (place_rank o ≡ extent ∷ off ∷ []) × (is_some o ≡ true)
names_of extent None is = absurd (let g : false ≡ true = is in cc)
names_of extent (Some f) is = (f.offset, ap (λ e. e ∷ f.offset ∷ []) (alike f.extent extent is), refl)

used_of : (extent : ℕ) (o : Option SlotFields) → is_some o ≡ true → names extent o ≡ false → (own : ℕ) × (off : ℕ) × (place_rank o ≡ own ∷ off ∷ []) × ((own == extent) ≡ false)
used_of extent None is not_it = absurd (let g : false ≡ true = is in cc)
used_of extent (Some f) is not_it = (f.extent, f.offset, refl, not_it)

named_in : (slots : List (Option SlotFields)) (order : List ℕ) (extent from to n : ℕ) → IsOrder (place_in slots) (is_used slots) order
    → IsPlace (place_in slots) (extent ∷ 0 ∷ [], 0) order from → IsPlace (place_in slots) ((extent + 1) ∷ 0 ∷ [], 0) order to
    → names extent (get_or slots n None) ≡ true → holds (between from to order) n ≡ true
named_in slots order extent from to n o low high is =
    let of = names_of extent (get_or slots n None) is in
    let there = stands (place_in slots) (is_used slots) order o n of.2 in
    let j : ℕ = there.at in
    let within = there.within in
    let here : (e : ℕ) → comes_before (ranked (place_in slots) (get_or order j 0)) (e ∷ 0 ∷ [], 0) ≡ nat_lt extent e =
    (λ e. ap (λ x. comes_before (ranked (place_in slots) x) (e ∷ 0 ∷ [], 0)) there.is ∙ ap (λ r. comes_before (r, n) (e ∷ 0 ∷ [], 0)) of.1 ∙ at_start extent of.0 n e) in
    let up : nat_le from j ≡ true = elim (cases_Bool (nat_le from j)) [
      | inl so ↦ so
      | inr off ↦
          let under : j < from = grind (arith, nat_tests, off) in
          let g : true ≡ false = sym (low.point.0 j 0 (omega arith) under) ∙ here extent ∙ grind (arith, nat_tests) in
          absurd (cc)
    ] in
    let down : nat_lt j to ≡ true = elim (cases_Bool (nat_lt j to)) [
      | inl so ↦ so
      | inr off ↦
          let over : to ≤ j = grind (arith, nat_tests, off) in
          let g : true ≡ false = grind (arith, nat_tests) ∙ sym (here (extent + 1)) ∙ high.point.1 j 0 over within in
          absurd (cc)
    ] in
    let a : from ≤ j = grind (arith, nat_tests, up) in
    let b : j < to = grind (arith, nat_tests, down) in
    let top = high.within in
    let long = length-between order from to top in
    let e : from + (j - from) ≡ j = omega (arith, a) in
    list_any_at (λ s. s == n) (between from to order) (j - from) 0 (omega (arith, a, b, long))
    (ap (λ x. x == n) (get_or-between order from to (j - from) 0 (omega (arith, a, b)) ∙ ap (λ i. get_or order i 0) e ∙ there.is) ∙ one_self n)

not_named_in : (slots : List (Option SlotFields)) (order : List ℕ) (extent from to n : ℕ) → IsOrder (place_in slots) (is_used slots) order
    → IsPlace (place_in slots) (extent ∷ 0 ∷ [], 0) order from → IsPlace (place_in slots) ((extent + 1) ∷ 0 ∷ [], 0) order to
    → names extent (get_or slots n None) ≡ false → holds (between from to order) n ≡ false
not_named_in slots order extent from to n o low high off = elim (cases_Bool (holds (between from to order) n)) [
  | inl is ↦
      let some = Any-from_list_any (λ s. s == n) (between from to order) is in
      let k : ℕ = some.0 in
      let less = some.2 in
      let top = high.within in
      let long = length-between order from to top in
      let under : from + k < to = omega (arith, less, long) in
      let within : from + k < length order = omega (arith, under, top) in
      let at : get_or order (from + k) 0 ≡ n =
      get_or_default order (from + k) 0 some.1 within ∙ sym (get_or-between order from to k some.1 under) ∙ some.3 ∙ alike some.1 n some.4 in
      let used : is_used slots n ≡ true = ap (is_used slots) (sym at) ∙ passes_at (place_in slots) (is_used slots) order o (from + k) 0 within in
      let of = used_of extent (get_or slots n None) used off in
      let here : (e : ℕ) → comes_before (ranked (place_in slots) (get_or order (from + k) 0)) (e ∷ 0 ∷ [], 0) ≡ nat_lt of.0 e =
      (λ e. ap (λ x. comes_before (ranked (place_in slots) x) (e ∷ 0 ∷ [], 0)) at ∙ ap (λ r. comes_before (r, n) (e ∷ 0 ∷ [], 0)) of.2 ∙ at_start of.0 of.1 n e) in
      let a : nat_lt of.0 extent ≡ false = sym (here extent) ∙ low.point.1 (from + k) 0 (omega arith) within in
      let b : nat_lt of.0 (extent + 1) ≡ true = sym (here (extent + 1)) ∙ high.point.0 (from + k) 0 (omega arith) under in
      let c : (of.0 == extent) ≡ false = of.3 in
      absurd (grind (arith, nat_tests, a, b, c))
  | inr none ↦ none
]

pub part_is_live : (slots : List (Option SlotFields)) (order : List ℕ) (extent from to : ℕ) → IsOrder (place_in slots) (is_used slots) order
    → IsPlace (place_in slots) (extent ∷ 0 ∷ [], 0) order from → IsPlace (place_in slots) ((extent + 1) ∷ 0 ∷ [], 0) order to
    → between from to order ≡ live_behind slots extent 0
part_is_live slots order extent from to o low high =
    let live = live_is_order slots extent in
    alone (place_in slots) (between from to order) (live_behind slots extent 0) (part_rises (place_in slots) order from to high.within o.rises) live.rises
    (λ n. elim (cases_Bool (names extent (get_or slots n None))) [
      | inl is ↦ named_in slots order extent from to n o low high is ∙ sym (live.members n ∙ is)
      | inr off ↦ not_named_in slots order extent from to n o low high off ∙ sym (live.members n ∙ off)
    ])
