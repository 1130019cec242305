-- The numbers that are kept of those that a patch names.
use Rattle.std.proofs.Common.{◌≡◌, ℕ, ◌∙◌, true, false, ◌⊎◌, inl, inr, List, [], ◌∷◌, ◌++◌, sym, ap}
use Rattle.std.specs.Prelude.{◌==◌, ◌||◌, IsPermutation}
use Rattle.std.proofs.lemmas.Bool.{both_ways, or_cases, or_left, or_right, eqb-true, eq-eqb}
use Rattle.std.proofs.lemmas.List.Folds.{list_any-append}
use Rattle.std.proofs.lemmas.List.Sorted.{list_any-IsPermutation}
use Rattle.patch_model.specs.Entry.{is_among}
use Rattle.patch_stacks.specs.State.{Block, class_at, KeepsNames}

pub among_push : (xs : List ℕ) (x n : ℕ) → is_among (xs ++ x ∷ []) n ≡ (is_among xs n || (x == n || false))
among_push xs x n = list_any-append (λ m. m == n) xs (x ∷ [])

pub pushed-cases : (xs : List ℕ) (x n : ℕ) → is_among (xs ++ x ∷ []) n ≡ true → (is_among xs n ≡ true) ⊎ (x ≡ n)
pushed-cases xs x n t = elim (or_cases (is_among xs n) (x == n || false) (sym (among_push xs x n) ∙ t)) [
  | inl old ↦ inl old
  | inr new ↦ elim (or_cases (x == n) false new) [ inl e ↦ inr (eqb-true _ _ e) | inr e ↦ absurd (cc) ]
]

pub pushed-old : (xs : List ℕ) (x n : ℕ) → is_among xs n ≡ true → is_among (xs ++ x ∷ []) n ≡ true
pushed-old xs x n t = among_push xs x n ∙ or_left _ (x == n || false) t

pub pushed-new : (xs : List ℕ) (x n : ℕ) → x ≡ n → is_among (xs ++ x ∷ []) n ≡ true
pushed-new xs x n e = among_push xs x n ∙ or_right (is_among xs n) _ (or_left _ false (eq-eqb _ _ e))

pub keeps_none : (b : Block) → KeepsNames b [] []
keeps_none b = record { from = λ n t. t; live = λ i n m t. t }

-- one that may be live
pub keeps_more : (b : Block) (before kept : List ℕ) (x : ℕ) → KeepsNames b before kept → KeepsNames b (before ++ x ∷ []) (kept ++ x ∷ [])
keeps_more b before kept x k = record {
  from = λ n t. elim (pushed-cases kept x n t) [ inl old ↦ pushed-old before x n (k.from n old) | inr new ↦ pushed-new before x n new ];
  live = λ i n m t. elim (pushed-cases before x n t) [ inl old ↦ pushed-old kept x n (k.live i n m old) | inr new ↦ pushed-new kept x n new ];
}

-- one that isn't
pub keeps_less : (b : Block) (before kept : List ℕ) (x : ℕ) → KeepsNames b before kept → ((i : ℕ) → is_among (class_at b i).members x ≡ false)
    → KeepsNames b (before ++ x ∷ []) kept
keeps_less b before kept x k none = record {
  from = λ n t. pushed-old before x n (k.from n t);
  live = λ i n m t. elim (pushed-cases before x n t) [
    | inl old ↦ k.live i n m old
    | inr new ↦ absurd (both_ways _ (none i) (ap (λ (z : ℕ). is_among (class_at b i).members z) new ∙ m))
  ];
}

-- in any order
pub keeps_sorted : (b : Block) (after kept sorted : List ℕ) → KeepsNames b after kept → IsPermutation kept sorted → KeepsNames b after sorted
keeps_sorted b after kept sorted k p = record {
  from = λ n t. k.from n (list_any-IsPermutation (λ m. m == n) kept sorted p ∙ t);
  live = λ i n m t. sym (list_any-IsPermutation (λ m. m == n) kept sorted p) ∙ k.live i n m t;
}
