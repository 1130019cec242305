-- Runs in order, and their numbers, each once.
use Rattle.std.proofs.Common.{◌≡◌, ℕ, zero, suc, ◌+◌, ◌-◌, ◌<◌, ◌≤◌, ◌∙◌, inl, inr, List, [], ◌∷◌, ◌++◌, length, refl, sym, ap, subst, arith, take, get_or}
use Rattle.std.specs.Prelude.{max, slice_index_or}
use Rattle.std.specs.List.{range_with_len}
use Rattle.std.specs.List.Sorted.{IsNonDecreasingBy, IsPermutation}
use Rattle.std.proofs.lemmas.Bool.{cases_lt, cases_eq}
use Rattle.std.proofs.lemmas.List.{take_more, take_all}
use Rattle.std.proofs.lemmas.List.Sorted.{Contains-permutation, IsPermutation-sym}
use Rattle.patch_model.specs.Member.{In, In-from_Contains, Contains-from_In}
use Rattle.patch_plans.specs.Rising.{rising}
use Rattle.patch_model.specs.Runs.{numbers_of, numbers_in}
use Rattle.patch_group.specs.Records.{first_of, numbers_from}
use Rattle.patch_model.specs.declared.runs.Run.{Run}
use Rattle.patch_group.proofs.Arranging.{AreRising, rising_same, rising-rises}
use Rattle.patch_plans.specs.Members.{In-append_left, In-append_right, append-In, In-rising, rising-In, In-flat_map, flat_map-In}
use Rattle.patch_group.proofs.Ranges.{numbers_in-push}

pub range-In : (a n x : ℕ) → In (range_with_len a n) x → (a ≤ x) × (x < a + n)
range-In a zero x i = absurd i
range-In a (suc n) x (inl e) = (omega (arith, e), omega (arith, e))
range-In a (suc n) x (inr i) = let r = range-In (a + 1) n x i in (omega (arith, r.0), omega (arith, r.1))

In-range : (a n x : ℕ) → a ≤ x → x < a + n → In (range_with_len a n) x
In-range a zero x low high = absurd (omega (arith, low, high))
In-range a (suc n) x low high = elim (cases_eq a x) [
  | inl e ↦ inl e
  | inr d ↦ elim (cases_lt a x) [
    | inl l ↦ inr (In-range (a + 1) n x (omega (arith, l)) (omega (arith, high)))
    | inr g ↦ let e : a ≡ x = omega (arith, low, g) in inl e
  ]
]

range-rises : (a n : ℕ) → AreRising (range_with_len a n)
range-rises a zero = tt
range-rises a (suc n) = ((λ m i. let r = range-In (a + 1) n m i in omega (arith, r.0)), range-rises (a + 1) n)

append-rises : (xs ys : List ℕ) → AreRising xs → AreRising ys → ((x y : ℕ) → In xs x → In ys y → x < y) → AreRising (xs ++ ys)
append-rises [] ys h g below = g
append-rises (x ∷ xs) ys h g below = (
  (λ m i. elim (append-In xs ys m i) [ inl j ↦ h.0 m j | inr j ↦ below x m (inl refl) j ]),
  append-rises xs ys h.1 g (λ y z i j. below y z (inr i) j),
)

-- the numbers from one on
from-In : (next : ℕ) (r : Run) (x : ℕ) → In (numbers_from next r) x → (first_of r ≤ x) × (next ≤ x) × (x ≤ r.last)
from-In next r x i =
    let a : ℕ = max (first_of r) next in
    let at = range-In a (r.last + 1 - a) x i in
    (omega (arith, at.0), omega (arith, at.0), omega (arith, at.0, at.1))

In-from : (next : ℕ) (r : Run) (x : ℕ) → first_of r ≤ x → next ≤ x → x ≤ r.last → In (numbers_from next r) x
In-from next r x first above last = let a : ℕ = max (first_of r) next in In-range a (r.last + 1 - a) x (omega (arith, first, above)) (omega (arith, first, above, last))

-- Of the runs up to a place all numbers are listed, each once, and all of them are below the next one. Of the runs from there on
-- all numbers below it are.
pub record AreListed (runs : List Run) (at : ℕ) (listed : List ℕ) (next : ℕ) : Type 0 where
  pub rises : AreRising listed
  pub below : (x : ℕ) → In listed x → x < next
  pub from : (x : ℕ) → In listed x → In (numbers_in (take at runs)) x
  pub all : (x : ℕ) → In (numbers_in (take at runs)) x → In listed x
  pub over : (j : ℕ) (d : Run) (x : ℕ) → at ≤ j → j < length runs → first_of (slice_index_or runs j d) ≤ x → x < next → In listed x

pub none_listed : (runs : List Run) → AreListed runs 0 [] 0
none_listed runs = record { rises = tt; below = λ x i. absurd i; from = λ x i. i; all = λ x i. i; over = λ j d x p q low high. absurd (omega (arith, high)) }

pub numbers-In : (r : Run) (x : ℕ) → In (numbers_of r) x → (first_of r ≤ x) × (x ≤ r.last)
numbers-In r x i = elim (append-In (range_with_len r.first (r.last - r.first)) (r.last ∷ []) x i) [
  | inl j ↦ let at = range-In r.first (r.last - r.first) x j in (omega (arith, at.0), omega (arith, at.0, at.1))
  | inr j ↦ elim j [ inl e ↦ (omega (arith, e), omega (arith, e)) | inr none ↦ absurd none ]
]

In-numbers : (r : Run) (x : ℕ) → first_of r ≤ x → x ≤ r.last → In (numbers_of r) x
In-numbers r x first last = elim (cases_lt x r.last) [
  | inl l ↦ In-append_left (range_with_len r.first (r.last - r.first)) (r.last ∷ []) x (In-range r.first (r.last - r.first) x (omega (arith, first, l)) (omega (arith, first, l)))
  | inr g ↦ let e : r.last ≡ x = omega (arith, g, last) in In-append_right (range_with_len r.first (r.last - r.first)) (r.last ∷ []) x (inl e)
]

-- what stands at a place, whatever would stand there else
pub same_there : (runs : List Run) (at : ℕ) (d r : Run) → at < length runs → get_or runs at d ≡ get_or runs at r
same_there [] at d r l = absurd (omega (arith, l))
same_there (x ∷ xs) zero d r l = refl
same_there (x ∷ xs) (suc at) d r l = same_there xs at d r (omega (arith, l))

module _ (runs : List Run) (at : ℕ) (r : Run) (listed : List ℕ) (next : ℕ) (inside : at < length runs) (is : get_or runs at r ≡ r) (sorted : IsNonDecreasingBy (λ (r : Run). first_of r) runs) (so_far : AreListed runs at listed next) where
  more : take (at + 1) runs ≡ take at runs ++ r ∷ []
  more = take_more runs at r inside ∙ ap (λ x. take at runs ++ x ∷ []) is

  whole : numbers_in (take (at + 1) runs) ≡ numbers_in (take at runs) ++ numbers_of r
  whole = ap numbers_in more ∙ numbers_in-push (take at runs) r

  -- a number of this run is listed now
  here : (x : ℕ) → first_of r ≤ x → x ≤ r.last → In (listed ++ numbers_from next r) x
  here x first last = elim (cases_lt x next) [
    | inl l ↦ In-append_left listed _ x (so_far.over at r x (omega arith) inside (subst (λ (s : Run). first_of s ≤ x) (sym is) first) l)
    | inr g ↦ In-append_right listed _ x (In-from next r x first (omega (arith, g)) last)
  ]

  pub one_listed : AreListed runs (at + 1) (listed ++ numbers_from next r) (max next (r.last + 1))
  one_listed = record {
    rises = append-rises listed (numbers_from next r) so_far.rises (range-rises (max (first_of r) next) (r.last + 1 - max (first_of r) next))
        (λ x y i j. let low = so_far.below x i in let high = from-In next r y j in omega (arith, low, high.1));
    below = λ x i. elim (append-In listed (numbers_from next r) x i) [
      | inl j ↦ let low = so_far.below x j in omega (arith, low)
      | inr j ↦ let high = from-In next r x j in omega (arith, high.2)
    ];
    from = λ x i. subst (λ ns. In ns x) (sym whole) (elim (append-In listed (numbers_from next r) x i) [
      | inl j ↦ In-append_left (numbers_in (take at runs)) (numbers_of r) x (so_far.from x j)
      | inr j ↦ let h = from-In next r x j in In-append_right (numbers_in (take at runs)) (numbers_of r) x (In-numbers r x h.0 h.2)
    ]);
    all = λ x i. elim (append-In (numbers_in (take at runs)) (numbers_of r) x (subst (λ ns. In ns x) whole i)) [
      | inl j ↦ In-append_left listed (numbers_from next r) x (so_far.all x j)
      | inr j ↦ let h = numbers-In r x j in here x h.0 h.1
    ];
    over = λ j d x from within low high. elim (cases_lt x next) [
      | inl l ↦ In-append_left listed (numbers_from next r) x (so_far.over j d x (omega (arith, from)) within low l)
      | inr g ↦
          let order = sorted at j d (omega (arith, from)) within in
          let first : first_of r ≤ x = subst (λ (s : Run). first_of s ≤ x) (get_there d) (omega (arith, order, low)) in
          here x first (omega (arith, high, g))
    ];
  }
    where
      get_there : (d : Run) → slice_index_or runs at d ≡ r
      get_there d = same_there runs at d r inside ∙ is

-- All are listed: they are those of the runs in any order.
pub all_listed : (old runs : List Run) (at : ℕ) (listed : List ℕ) (next : ℕ) → IsPermutation old runs → length runs ≤ at → AreListed runs at listed next → listed ≡ rising (numbers_in old)
all_listed old runs at listed next moved past so_far =
    let whole = take_all at runs past in
    rising_same listed (rising (numbers_in old)) so_far.rises (rising-rises (numbers_in old))
    (λ x i. In-rising (numbers_in old) x (moved_in runs old (IsPermutation-sym old runs moved) x (subst (λ rs. In (numbers_in rs) x) whole (so_far.from x i))))
    (λ x i. so_far.all x (subst (λ rs. In (numbers_in rs) x) (sym whole) (moved_in old runs moved x (rising-In (numbers_in old) x i))))
  where
    moved_in : (a b : List Run) → IsPermutation a b → (x : ℕ) → In (numbers_in a) x → In (numbers_in b) x
    moved_in a b p x i = let r = flat_map-In numbers_of a x i in In-flat_map numbers_of b r.0 x (In-from_Contains b r.0 (Contains-permutation a b r.0 p (Contains-from_In a r.0 r.1))) r.2
