-- How two keys compare.
use Rattle.std.proofs.Common.{◌≡◌, ℕ, zero, suc, ◌<◌, ◌≤◌, ◌∙◌, inl, inr, List, [], ◌∷◌, length, get_or, drop, refl, sym, ap, arith, min}
use Rattle.std.specs.Prelude.{◌≢◌}
use Rattle.std.specs.Cmp.Lexicographic.{slice_cmp}
use Rattle.std.specs.Cmp.{nat_cmp_is}
use Rattle.std.specs.Ordering.{nat_cmp, ordering_then}
use Rattle.std.specs.declared.cmp.Ordering.{Ordering}
use Rattle.std.specs.declared.cmp.Ordering.TheVariants.{Less, Equal, Greater}
use Rattle.std.proofs.lemmas.Bool.{cases_lt}

-- the first pair that differs decides
first-decides : (x y : ℕ) (rest : Ordering) → x ≢ y → ordering_then (nat_cmp x y) rest ≡ nat_cmp x y
first-decides x y rest other = elim (cases_lt x y) [
  | inl less ↦ let e : Less ≡ nat_cmp x y = nat_cmp_is x y Less less in ap (λ o. ordering_then o rest) (sym e) ∙ e
  | inr more ↦ let e : Greater ≡ nat_cmp x y = nat_cmp_is x y Greater (omega arith) in ap (λ o. ordering_then o rest) (sym e) ∙ e
]

-- and a pair that doesn't leaves it to the others
same-passes : (x y : ℕ) (rest : Ordering) → x ≡ y → ordering_then (nat_cmp x y) rest ≡ rest
same-passes x y rest same = ap (λ o. ordering_then o rest) (sym (nat_cmp_is x y Equal same))

pub one_passed : (xs ys : List ℕ) (i : ℕ) → i < length xs → i < length ys → get_or xs i 0 ≡ get_or ys i 0
    → slice_cmp nat_cmp (drop i xs) (drop i ys) ≡ slice_cmp nat_cmp (drop (suc i) xs) (drop (suc i) ys)
one_passed [] ys i low low2 same = absurd (omega arith)
one_passed (x ∷ xs) [] i low low2 same = absurd (omega arith)
one_passed (x ∷ xs) (y ∷ ys) zero low low2 same = same-passes x y (slice_cmp nat_cmp xs ys) same
one_passed (x ∷ xs) (y ∷ ys) (suc i) low low2 same = one_passed xs ys i (omega arith) (omega arith) same

pub one_decides : (xs ys : List ℕ) (i : ℕ) → i < length xs → i < length ys → get_or xs i 0 ≢ get_or ys i 0
    → slice_cmp nat_cmp (drop i xs) (drop i ys) ≡ nat_cmp (get_or xs i 0) (get_or ys i 0)
one_decides [] ys i low low2 other = absurd (omega arith)
one_decides (x ∷ xs) [] i low low2 other = absurd (omega arith)
one_decides (x ∷ xs) (y ∷ ys) zero low low2 other = first-decides x y (slice_cmp nat_cmp xs ys) other
one_decides (x ∷ xs) (y ∷ ys) (suc i) low low2 other = one_decides xs ys i (omega arith) (omega arith) other

-- where all pairs are passed the lengths decide
pub lengths_decide : (xs ys : List ℕ) (i : ℕ) → i ≤ length xs → i ≤ length ys → min (length xs) (length ys) ≤ i → slice_cmp nat_cmp (drop i xs) (drop i ys) ≡ nat_cmp (length xs) (length ys)
lengths_decide [] [] zero a b c = nat_cmp_is 0 0 Equal refl
lengths_decide [] (y ∷ ys) zero a b c = nat_cmp_is 0 (length (y ∷ ys)) Less (omega arith)
lengths_decide (x ∷ xs) [] zero a b c = nat_cmp_is (length (x ∷ xs)) 0 Greater (omega arith)
lengths_decide (x ∷ xs) (y ∷ ys) zero a b c = absurd (omega arith)
lengths_decide [] ys (suc i) a b c = absurd (omega arith)
lengths_decide (x ∷ xs) [] (suc i) a b c = absurd (omega arith)
lengths_decide (x ∷ xs) (y ∷ ys) (suc i) a b c = lengths_decide xs ys i (omega arith) (omega arith) (omega arith) ∙ more (length xs) (length ys)
  where
    more : (m n : ℕ) → nat_cmp m n ≡ nat_cmp (suc m) (suc n)
    more m n = elim (cases_lt m n) [
      | inl less ↦ sym (nat_cmp_is m n Less less) ∙ nat_cmp_is (suc m) (suc n) Less (omega arith)
      | inr over ↦ elim (cases_lt n m) [
        | inl less ↦ sym (nat_cmp_is m n Greater less) ∙ nat_cmp_is (suc m) (suc n) Greater (omega arith)
        | inr under ↦ sym (nat_cmp_is m n Equal (omega arith)) ∙ nat_cmp_is (suc m) (suc n) Equal (omega arith)
      ]
    ]
