-- How many numbers of a list were told so far.
use Rattle.std.proofs.Common.{◌≡◌, ℕ, zero, suc, ◌+◌, ◌<◌, ◌≤◌, ◌∙◌, Bool, List, [], ◌∷◌, ◌++◌, length, refl, ap, arith, take}
use Rattle.std.specs.Prelude.{slice_index_or, count_by}
use Rattle.patch_links.specs.Lists.{once}
use Rattle.patch_links.proofs.Counts.{count-last}

next : (xs : List ℕ) (place n : ℕ) → place < length xs → slice_index_or xs place 0 ≡ n → take (suc place) xs ≡ take place xs ++ n ∷ []
next [] place n h at = absurd (omega arith)
next (x ∷ xs) zero n h at = ap (λ z. z ∷ []) at
next (x ∷ xs) (suc place) n h at = ap (λ ys. x ∷ ys) (next xs place n (omega arith) at)

pub one-more : (p : ℕ → Bool) (xs : List ℕ) (place n count later : ℕ) (is : Bool) → place < length xs → slice_index_or xs place 0 ≡ n → is ≡ p n → later ≡ count + once is → count ≡ count_by p (take place xs)
    → later ≡ count_by p (take (place + 1) xs)
one-more p xs place n count later is h at told more was =
    let then : count_by p (take (place + 1) xs) ≡ count_by p (take place xs) + once (p n) =
    ap (λ j. count_by p (take j xs)) (let e : place + 1 ≡ suc place = omega arith in e) ∙ ap (count_by p) (next xs place n h at) ∙ count-last p (take place xs) n in
    let one : once is ≡ once (p n) = ap once told in omega (arith, then, one, more, was)

whole : (xs : List ℕ) (place : ℕ) → length xs ≤ place → take place xs ≡ xs
whole [] zero past = refl
whole [] (suc place) past = refl
whole (x ∷ xs) zero past = absurd (omega arith)
whole (x ∷ xs) (suc place) past = ap (λ ys. x ∷ ys) (whole xs place (omega arith))

pub all-told : (p : ℕ → Bool) (xs : List ℕ) (place count : ℕ) → length xs ≤ place → count ≡ count_by p (take place xs) → count ≡ count_by p xs
all-told p xs place count past was = was ∙ ap (count_by p) (whole xs place past)
