-- Numbers in order, each once.
use Rattle.std.proofs.Common.{◌≡◌, ℕ, suc, ◌<◌, ◌≤◌, ◌⊎◌, ◌∙◌, inl, inr, List, [], ◌∷◌, length, refl, sym, ap, arith, subst}
use Rattle.std.specs.Prelude.{nat_eq, slice_index_or}
use Rattle.std.specs.List.{AllByRecursion}
use Rattle.std.specs.List.{dedup, dedup_from}
use Rattle.std.specs.List.Sorted.{IsNonDecreasingBy, IsPermutation}
use Rattle.std.proofs.lemmas.Bool.{cases_Bool, cases_order, eqb-true, eqb-false}
use Rattle.std.proofs.lemmas.List.Sorted.{Contains-permutation, IsPermutation-sym}
use Rattle.patch_model.specs.Member.{In, In-from_Contains, Contains-from_In}
use Rattle.patch_links.specs.Ready.{AreRising, IsArranged}

abbrev pub IsBelowAll : ℕ → List ℕ → Type 0
IsBelowAll n ns = (m : ℕ) → In ns m → n < m

below_all : (n : ℕ) (ns : List ℕ) → IsBelowAll n ns → AllByRecursion (λ m. n < m) ns
below_all n [] h = tt
below_all n (m ∷ ns) h = (h m (inl refl), below_all n ns (λ k i. h k (inr i)))

pub below-In : (n : ℕ) (ns : List ℕ) → AllByRecursion (λ m. n < m) ns → IsBelowAll n ns
below-In n [] h m i = absurd i
below-In n (k ∷ ns) h m (inl e) = subst (λ j. n < j) e h.0
below-In n (k ∷ ns) h m (inr i) = below-In n ns h.1 m i

-- the numbers don't fall
abbrev Rises : List ℕ → Type 0
Rises [] = Unit {0}
Rises (n ∷ ns) = ((m : ℕ) → In ns m → n ≤ m) × Rises ns

rises-from : (ns : List ℕ) → ((i j d : ℕ) → i ≤ j → j < length ns → slice_index_or ns i d ≤ slice_index_or ns j d) → Rises ns
rises-from [] h = tt
rises-from (n ∷ ns) h = (
  (λ m i. let c = Contains-from_In ns m i in let a = h 0 (suc c.0) m (omega arith) (omega (arith, c.1)) in subst (λ k. n ≤ k) c.2 a),
  rises-from ns (λ i j d le lt. h (suc i) (suc j) d (omega arith) (omega arith)),
)

dedup-In : (k : ℕ) (ns : List ℕ) (m : ℕ) → In (dedup_from nat_eq k ns) m → (k ≡ m) ⊎ In ns m
dedup-In k [] m i = i
dedup-In k (n ∷ ns) m i = elim (cases_Bool (nat_eq n k)) [
  | inl t ↦ elim (dedup-In k ns m (rw t at i)) [ inl e ↦ inl e | inr j ↦ inr (inr j) ]
  | inr t ↦ elim (rw t at i) [ inl e ↦ inl e | inr j ↦ inr (dedup-In n ns m j) ]
]

In-dedup : (k : ℕ) (ns : List ℕ) (m : ℕ) → (k ≡ m) ⊎ In ns m → In (dedup_from nat_eq k ns) m
In-dedup k [] m i = i
In-dedup k (n ∷ ns) m i = elim (cases_Bool (nat_eq n k)) [
  | inl t ↦ rw t (In-dedup k ns m (elim i [ inl e ↦ inl e | inr j ↦ elim j [ inl e ↦ inl (sym (eqb-true n k t) ∙ e) | inr l ↦ inr l ] ]))
  | inr t ↦ rw t (elim i [ inl e ↦ inl e | inr j ↦ inr (In-dedup n ns m j) ])
]

dedup-rising : (k : ℕ) (ns : List ℕ) → ((m : ℕ) → In ns m → k ≤ m) → Rises ns → AreRising (dedup_from nat_eq k ns)
dedup-rising k [] above h = (tt, tt)
dedup-rising k (n ∷ ns) above h = elim (cases_Bool (nat_eq n k)) [
  | inl t ↦ rw t (dedup-rising k ns (λ m i. above m (inr i)) h.1)
  | inr t ↦
      let differ = eqb-false n k t in
      let most : k ≤ n = above n (inl refl) in
      let less : k < n = elim (cases_order k n) [ inl e ↦ absurd (differ (sym e)) | inr o ↦ elim o [ inl a ↦ a | inr b ↦ absurd (omega arith) ] ] in
      rw t (
        below_all k (dedup_from nat_eq n ns) (λ m i. elim (dedup-In n ns m i) [
          | inl e ↦ subst (λ j. k < j) e less
          | inr j ↦ let a : n ≤ m = h.0 m j in omega arith
        ]),
        dedup-rising n ns h.0 h.1,
      )
]

arranged : (ns : List ℕ) → Rises ns → IsArranged ns (dedup nat_eq ns)
arranged [] h = record { rising = tt; kept = λ n i. i; no_more = λ n i. i }
arranged (k ∷ ns) h = record { rising = dedup-rising k ns h.0 h.1; kept = λ n i. In-dedup k ns n i; no_more = λ n i. dedup-In k ns n i }

-- sorted, and each once
pub arranges : (old mid new : List ℕ) → IsPermutation old mid → IsNonDecreasingBy (λ n. n) mid → new ≡ dedup nat_eq mid → IsArranged old new
arranges old mid new moved up is =
    let a = arranged mid (rises-from mid (λ i j d le lt. up i j d le lt)) in
    rw is (record {
      rising = a.rising;
      kept = λ n i. a.kept n (In-from_Contains mid n (Contains-permutation old mid n moved (Contains-from_In old n i)));
      no_more = λ n i. In-from_Contains old n (Contains-permutation mid old n (IsPermutation-sym old mid moved) (Contains-from_In mid n (a.no_more n i)));
    })

first_same : (x y : ℕ) (xs ys : List ℕ) → AreRising (x ∷ xs) → AreRising (y ∷ ys) → In (y ∷ ys) x → In (x ∷ xs) y → x ≡ y
first_same x y xs ys h g (inl e) j = sym e
first_same x y xs ys h g (inr i) (inl e) = e
first_same x y xs ys h g (inr i) (inr j) =
    let a : y < x = below-In y ys g.0 x i in let b : x < y = below-In x xs h.0 y j in absurd (omega arith)

rest_In : (x y : ℕ) (xs ys : List ℕ) → AreRising (x ∷ xs) → x ≡ y → (e : ℕ) → In xs e → In (y ∷ ys) e → In ys e
rest_In x y xs ys h same e i (inr j) = j
rest_In x y xs ys h same e i (inl eq) = let a : x < e = below-In x xs h.0 e i in absurd (omega arith)

-- two rising lists of the same numbers are one
pub rising_same : (xs ys : List ℕ) → AreRising xs → AreRising ys → ((e : ℕ) → In xs e → In ys e) → ((e : ℕ) → In ys e → In xs e) → xs ≡ ys
rising_same [] [] h g f k = refl
rising_same [] (y ∷ ys) h g f k = absurd (k y (inl refl))
rising_same (x ∷ xs) [] h g f k = absurd (f x (inl refl))
rising_same (x ∷ xs) (y ∷ ys) h g f k =
    let same : x ≡ y = first_same x y xs ys h g (f x (inl refl)) (k y (inl refl)) in
    let rest : xs ≡ ys = rising_same xs ys h.1 g.1 (λ e i. rest_In x y xs ys h same e i (f e (inr i))) (λ e i. rest_In y x ys xs g (sym same) e i (k e (inr i))) in
    ap (λ z. z ∷ xs) same ∙ ap (λ zs. y ∷ zs) rest
