-- Slots in an order, where one is put in or taken out.
use Rattle.std.proofs.Common.{◌≡◌, ℕ, ◌+◌, ◌-◌, ◌<◌, ◌≤◌, ◌∙◌, inl, inr, Ordering, Less, Equal, Greater, Bool, true, false, List, [], ◌∷◌, length, get_or, refl, sym, ap, arith}
use Rattle.std.specs.Prelude.{◌==◌, ◌||◌, nat_lt}
use Rattle.std.specs.Cmp.{IsTotalOrder}
use Rattle.std.specs.Cmp.Lexicographic.{slice_cmp}
use Rattle.std.specs.List.{AllPairs, insert, remove}
use Rattle.std.specs.List.Sorted.{IsPartitionedBy}
use Rattle.std.specs.Ordering.{ordering_then, ordering_reverse, nat_cmp, is_lt}
use Rattle.std.proofs.lemmas.Bool.{cases_Bool, cases_order}
use Rattle.std.proofs.lemmas.Bool.Decides.{nat_tests}
use Rattle.std.proofs.lemmas.Cmp.{then_total, on_total, nat_cmp_total, nat_list_cmp_total, tied_itself}
use Rattle.std.proofs.lemmas.List.{get_or_default}
use Rattle.std.proofs.lemmas.List.Edits.{length-insert, get_or-insert_below, get_or-insert_at, get_or-insert_above, length-remove, get_or-remove_below, get_or-remove_above}
use Rattle.std.proofs.lemmas.List.Folds.{Any-from_list_any, list_any_none, list_any_at}
use Rattle.std.proofs.lemmas.List.Quantifiers.{all_pairs_remove}
use Rattle.std.proofs.lemmas.List.Sorted.{IsPermutation-insert, IsPermutation-remove, list_any-IsPermutation}
use Rattle.patch_index.specs.Orders.{comes_before, ranked, holds, IsOrder, IsPlace}

-- It is an order.

abbrev compared : List ℕ × ℕ → List ℕ × ℕ → Ordering
compared a b = ordering_then (slice_cmp nat_cmp a.0 b.0) (nat_cmp a.1 b.1)

compared_total : IsTotalOrder compared
compared_total = then_total (on_total (λ (x : List ℕ × ℕ). x.0) nat_list_cmp_total) (on_total (λ (x : List ℕ × ℕ). x.1) nat_cmp_total)

less_if : (o : Ordering) → is_lt o ≡ true → o ≡ Less
less_if Less is = refl
less_if Equal is = absurd (let g : false ≡ true = is in cc)
less_if Greater is = absurd (let g : false ≡ true = is in cc)

pub never_before_itself : (x : List ℕ × ℕ) → comes_before x x ≡ false
never_before_itself x = ap is_lt (tied_itself compared_total x)

pub goes_on : (x y z : List ℕ × ℕ) → comes_before x y ≡ true → comes_before y z ≡ true → comes_before x z ≡ true
goes_on x y z a b = ap is_lt (compared_total.trans x y z (less_if (compared x y) a) (less_if (compared y z) b))

-- of two different slots one comes first
tie_of : (o p : Ordering) → ordering_then o p ≡ Equal → p ≡ Equal
tie_of Less p is = absurd (let g : Less ≡ Equal = is in cc)
tie_of Equal p is = is
tie_of Greater p is = absurd (let g : Greater ≡ Equal = is in cc)

same_number : (a b : ℕ) → nat_cmp a b ≡ Equal → (a == b) ≡ true
same_number a b is = grind (arith, nat_tests, is)

pub other_way : (x y : List ℕ × ℕ) → comes_before x y ≡ false → (x.1 == y.1) ≡ false → comes_before y x ≡ true
other_way x y off apart =
    turned (compared x y) (compared y x) (compared_total.antisymm y x) off (λ tie. let same = same_number x.1 y.1 (tie_of (slice_cmp nat_cmp x.0 y.0) (nat_cmp x.1 y.1) tie) in absurd (cc))
  where
    turned : (o p : Ordering) → p ≡ ordering_reverse o → is_lt o ≡ false → (o ≡ Equal → is_lt p ≡ true) → is_lt p ≡ true
    turned Less p is off tie = absurd (let g : true ≡ false = off in cc)
    turned Equal p is off tie = tie refl
    turned Greater p is off tie = ap is_lt is

pub alike : (a b : ℕ) → (a == b) ≡ true → a ≡ b
alike a b is = grind (arith, nat_tests, is)

pub one_self : (a : ℕ) → (a == a) ≡ true
one_self a = grind (arith, nat_tests)

pub back : (a b : ℕ) → (a == b) ≡ false → (b == a) ≡ false
back a b is = grind (arith, nat_tests, is)

-- one before the other, by their ranks
abbrev pub Before : (ℕ → List ℕ) → ℕ → ℕ → Type 0
Before rank a b = comes_before (ranked rank a) (ranked rank b) ≡ true

-- What an order has.

pub passes_at : (rank : ℕ → List ℕ) (passes : ℕ → Bool) (xs : List ℕ) → IsOrder rank passes xs → (k d : ℕ) → k < length xs → passes (get_or xs k d) ≡ true
passes_at rank passes xs o k d less = sym (o.members (get_or xs k d)) ∙ list_any_at (λ s. s == get_or xs k d) xs k d less (one_self (get_or xs k d))

-- where a slot stands
pub record Stands (xs : List ℕ) (s : ℕ) : Type 0 where
  pub at : ℕ
  pub within : at < length xs
  pub is : get_or xs at 0 ≡ s

pub stands : (rank : ℕ → List ℕ) (passes : ℕ → Bool) (xs : List ℕ) → IsOrder rank passes xs → (s : ℕ) → passes s ≡ true → Stands xs s
stands rank passes xs o s is =
    let some = Any-from_list_any (λ x. x == s) xs (o.members s ∙ is) in
    record {
      at = some.0;
      within = some.2;
      is = get_or_default xs some.0 0 some.1 some.2 ∙ some.3 ∙ alike some.1 s some.4;
    }

pub apart : (rank : ℕ → List ℕ) (xs : List ℕ) → AllPairs (Before rank) xs → (i j d : ℕ) → i < j → j < length xs → (get_or xs i d == get_or xs j d) ≡ false
apart rank xs rises i j d less within = elim (cases_Bool (get_or xs i d == get_or xs j d)) [
  | inl same ↦
      let e : get_or xs i d ≡ get_or xs j d = alike (get_or xs i d) (get_or xs j d) same in
      let g : true ≡ false = sym (rises i j d less within) ∙ ap (λ x. comes_before (ranked rank x) (ranked rank (get_or xs j d))) e ∙ never_before_itself (ranked rank (get_or xs j d)) in
      absurd (cc)
  | inr off ↦ off
]

-- A slot changes what it is ranked by, or whether it passes, and no other one does.
pub record IsChange (rank next : ℕ → List ℕ) (passes now : ℕ → Bool) (s : ℕ) : Type 0 where
  pub ranks : (n : ℕ) → (n == s) ≡ false → next n ≡ rank n
  pub others : (n : ℕ) → (n == s) ≡ false → now n ≡ passes n

same_before : (rank next : ℕ → List ℕ) (a b : ℕ) → next a ≡ rank a → next b ≡ rank b → Before rank a b → Before next a b
same_before rank next a b first second is =
    ap (λ r. comes_before (r, a) (ranked next b)) first ∙ ap (λ r. comes_before (ranked rank a) (r, b)) second ∙ is

-- the same order, where no slot changes what it is ranked by, and none whether it passes
pub alike_order : (rank next : ℕ → List ℕ) (passes now : ℕ → Bool) (xs : List ℕ) → ((n : ℕ) → next n ≡ rank n) → ((n : ℕ) → now n ≡ passes n)
    → IsOrder rank passes xs → IsOrder next now xs
alike_order rank next passes now xs ranks others o = record {
  rises = λ i j d less within. same_before rank next (get_or xs i d) (get_or xs j d) (ranks (get_or xs i d)) (ranks (get_or xs j d)) (o.rises i j d less within);
  members = λ n. o.members n ∙ sym (others n);
}

-- It is put in.

other_in : (rank : ℕ → List ℕ) (passes : ℕ → Bool) (xs : List ℕ) (s : ℕ) → IsOrder rank passes xs → passes s ≡ false → (k d : ℕ) → k < length xs → (get_or xs k d == s) ≡ false
other_in rank passes xs s o none k d less = elim (cases_Bool (get_or xs k d == s)) [
  | inl same ↦ let g : true ≡ false = sym (passes_at rank passes xs o k d less) ∙ ap passes (alike (get_or xs k d) s same) ∙ none in absurd (cc)
  | inr off ↦ off
]

risen : (next : ℕ → List ℕ) (xs : List ℕ) (s at : ℕ) → at ≤ length xs → AllPairs (Before next) xs → ((k d : ℕ) → k < at → Before next (get_or xs k d) s)
    → ((k d : ℕ) → at ≤ k → k < length xs → Before next s (get_or xs k d)) → AllPairs (Before next) (insert xs at s)
risen next xs s at low rises before behind i j d less within =
    let long = length-insert xs at s low in
    elim (cases_order j at) [
      | inl here ↦
          let first : get_or (insert xs at s) i d ≡ get_or xs i d = get_or-insert_below xs at s d i (omega (arith, here, less)) low in
          let second : get_or (insert xs at s) j d ≡ s = ap (λ k. get_or (insert xs at s) k d) here ∙ get_or-insert_at xs at s d low in
          moved_both first second (before i d (omega (arith, here, less)))
      | inr (inl under) ↦
          let first : get_or (insert xs at s) i d ≡ get_or xs i d = get_or-insert_below xs at s d i (omega (arith, under, less)) low in
          let second : get_or (insert xs at s) j d ≡ get_or xs j d = get_or-insert_below xs at s d j under low in
          moved_both first second (rises i j d less (omega (arith, under, low)))
      | inr (inr over) ↦
          let f : j ≡ j - 1 + 1 = omega (arith, over) in
          let second : get_or (insert xs at s) j d ≡ get_or xs (j - 1) d =
          ap (λ k. get_or (insert xs at s) k d) f ∙ get_or-insert_above xs at s d (j - 1) (omega (arith, over)) low in
          let high : j - 1 < length xs = omega (arith, over, within, long) in
          elim (cases_order i at) [
            | inl here ↦
                let first : get_or (insert xs at s) i d ≡ s = ap (λ k. get_or (insert xs at s) k d) here ∙ get_or-insert_at xs at s d low in
                moved_both first second (behind (j - 1) d (omega (arith, over)) high)
            | inr (inl under) ↦
                let first : get_or (insert xs at s) i d ≡ get_or xs i d = get_or-insert_below xs at s d i under low in
                moved_both first second (rises i (j - 1) d (omega (arith, under, over)) high)
            | inr (inr above) ↦
                let e : i ≡ i - 1 + 1 = omega (arith, above) in
                let first : get_or (insert xs at s) i d ≡ get_or xs (i - 1) d =
                ap (λ k. get_or (insert xs at s) k d) e ∙ get_or-insert_above xs at s d (i - 1) (omega (arith, above)) low in
                moved_both first second (rises (i - 1) (j - 1) d (omega (arith, above, less)) high)
          ]
    ]
  where
    moved_both : {a b x y : ℕ} → a ≡ x → b ≡ y → Before next x y → Before next a b
    moved_both {b = b} {x = x} first second is = ap (λ v. comes_before (ranked next v) (ranked next b)) first ∙ ap (λ v. comes_before (ranked next x) (ranked next v)) second ∙ is

pub put_in_order : (rank next : ℕ → List ℕ) (passes now : ℕ → Bool) (xs : List ℕ) (s at : ℕ) → IsOrder rank passes xs → passes s ≡ false
    → IsChange rank next passes now s → now s ≡ true → IsPlace rank (ranked next s) xs at → IsOrder next now (insert xs at s)
put_in_order rank next passes now xs s at o none change there place = record {
  rises =
      risen next xs s at place.within
      (λ i j d less within. same_before rank next (get_or xs i d) (get_or xs j d)
      (change.ranks (get_or xs i d) (other_in rank passes xs s o none i d (omega (arith, less, within))))
      (change.ranks (get_or xs j d) (other_in rank passes xs s o none j d within)) (o.rises i j d less within))
      (λ k d less. let low = place.within in
      ap (λ r. comes_before (r, get_or xs k d) (ranked next s)) (change.ranks (get_or xs k d) (other_in rank passes xs s o none k d (omega (arith, less, low))))
      ∙ place.point.0 k d (omega arith) less)
      (λ k d up less. let off = other_in rank passes xs s o none k d less in
      other_way (ranked next (get_or xs k d)) (ranked next s)
      (ap (λ r. comes_before (r, get_or xs k d) (ranked next s)) (change.ranks (get_or xs k d) off) ∙ place.point.1 k d up less) off);
  members = λ n.
      sym (list_any-IsPermutation (λ x. x == n) (s ∷ xs) (insert xs at s) (IsPermutation-insert xs at s))
      ∙ elim (cases_Bool (n == s)) [
        | inl same ↦ let e : n ≡ s = alike n s same in let f : (s == n) ≡ true = ap (λ x. x == n) (sym e) ∙ one_self n in rw f (sym (ap now e ∙ there))
        | inr off ↦ let f : (s == n) ≡ false = back n s off in rw f (o.members n ∙ sym (change.others n off))
      ];
}

-- It is taken out.

gone : (rank : ℕ → List ℕ) (xs : List ℕ) (s at : ℕ) → AllPairs (Before rank) xs → at < length xs → get_or xs at 0 ≡ s
    → (k d : ℕ) → k < length (remove xs at) → (get_or (remove xs at) k d == s) ≡ false
gone rank xs s at rises within is k d less =
    let long = length-remove xs at within in
    let here : get_or xs at d ≡ s = get_or_default xs at d 0 within ∙ is in
    elim (cases_Bool (nat_lt k at)) [
      | inl under ↦
          let u : k < at = grind (arith, nat_tests, under) in
          ap (λ x. x == s) (get_or-remove_below xs at d k u within) ∙ ap (λ x. get_or xs k d == x) (sym here) ∙ apart rank xs rises k at d u within
      | inr over ↦
          let u : at ≤ k = grind (arith, nat_tests, over) in
          ap (λ x. x == s) (get_or-remove_above xs at d k u within) ∙ ap (λ x. get_or xs (k + 1) d == x) (sym here)
          ∙ back (get_or xs at d) (get_or xs (k + 1) d) (apart rank xs rises at (k + 1) d (omega (arith, u)) (omega (arith, less, long)))
    ]

pub take_out_of_order : (rank next : ℕ → List ℕ) (passes now : ℕ → Bool) (xs : List ℕ) (s at : ℕ) → IsOrder rank passes xs → at < length xs
    → get_or xs at 0 ≡ s → IsChange rank next passes now s → now s ≡ false → IsOrder next now (remove xs at)
take_out_of_order rank next passes now xs s at o within is change none =
    let left = gone rank xs s at o.rises within is in
    let here : s ≡ get_or xs at s = sym (get_or_default xs at s 0 within ∙ is) in
    record {
      rises = λ i j d less high.
          same_before rank next (get_or (remove xs at) i d) (get_or (remove xs at) j d)
          (change.ranks (get_or (remove xs at) i d) (left i d (omega (arith, less, high)))) (change.ranks (get_or (remove xs at) j d) (left j d high))
          (all_pairs_remove (Before rank) xs at within o.rises i j d less high);
      members = λ n.
          let both : holds xs n ≡ ((s == n) || holds (remove xs at) n) = list_any-IsPermutation (λ x. x == n) xs (s ∷ remove xs at) (IsPermutation-remove xs at s within here) in
          elim (cases_Bool (n == s)) [
            | inl same ↦
                let e : n ≡ s = alike n s same in
                list_any_none (λ x. x == n) (remove xs at) (λ k d less. ap (λ x. get_or (remove xs at) k d == x) e ∙ left k d less) ∙ sym (ap now e ∙ none)
            | inr off ↦ let f : (s == n) ≡ false = back n s off in ap (λ b. b || holds (remove xs at) n) (sym f) ∙ sym both ∙ o.members n ∙ sym (change.others n off)
          ];
    }

-- It is searched for.

pub parted : (rank : ℕ → List ℕ) (xs : List ℕ) → AllPairs (Before rank) xs → (it : List ℕ × ℕ) → IsPartitionedBy (λ s. comes_before (ranked rank s) it) xs
parted rank xs rises it i j d low within is = elim (cases_order i j) [
  | inl same ↦ ap (λ k. comes_before (ranked rank (get_or xs k d)) it) same ∙ is
  | inr (inl less) ↦ goes_on (ranked rank (get_or xs i d)) (ranked rank (get_or xs j d)) it (rises i j d less within) is
  | inr (inr more) ↦ absurd (omega (arith, low, more))
]

pub found_at : (rank : ℕ → List ℕ) (passes : ℕ → Bool) (xs : List ℕ) (s at : ℕ) → IsOrder rank passes xs → passes s ≡ true → IsPlace rank (ranked rank s) xs at
    → (at < length xs) × (get_or xs at 0 ≡ s)
found_at rank passes xs s at o is place =
    let there = stands rank passes xs o s is in
    let within = there.within in
    elim (cases_order there.at at) [
      | inl here ↦ (omega (arith, here, within), ap (λ k. get_or xs k 0) (sym here) ∙ there.is)
      | inr (inl under) ↦
          let g : true ≡ false = sym (place.point.0 there.at 0 (omega arith) under) ∙ ap (λ x. comes_before (ranked rank x) (ranked rank s)) there.is ∙ never_before_itself (ranked rank s) in
          absurd (cc)
      | inr (inr over) ↦
          let g : true ≡ false = sym (o.rises at there.at 0 over within) ∙ ap (λ x. comes_before (ranked rank (get_or xs at 0)) (ranked rank x)) there.is
          ∙ place.point.1 at 0 (omega arith) (omega (arith, over, within)) in
          absurd (cc)
    ]

-- slots without a rank stand by their numbers
pub by_number : (a b : ℕ) → comes_before ([], a) ([], b) ≡ nat_lt a b
by_number a b = elim (cases_order a b) [
  | inl tie ↦
      let c : nat_cmp a b ≡ Equal = grind (arith, nat_tests, tie) in
      let l : nat_lt a b ≡ false = grind (arith, nat_tests, tie) in
      rw (c, l) refl
  | inr (inl less) ↦
      let c : nat_cmp a b ≡ Less = grind (arith, nat_tests, less) in
      let l : nat_lt a b ≡ true = grind (arith, nat_tests, less) in
      rw (c, l) refl
  | inr (inr more) ↦
      let c : nat_cmp a b ≡ Greater = grind (arith, nat_tests, more) in
      let l : nat_lt a b ≡ false = grind (arith, nat_tests, more) in
      rw (c, l) refl
]
