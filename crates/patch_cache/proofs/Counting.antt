-- How many of a list pass, before and after a change of it.
use Rattle.std.proofs.Common.{◌≡◌, ℕ, ◌+◌, ◌<◌, ◌≤◌, inl, inr, Bool, true, false, List, [], ◌∷◌, ◌++◌, map, refl, arith}
use Rattle.std.specs.Prelude.{cond, count_by}
use Rattle.std.proofs.lemmas.List.Sums.{sum_by-append, sum_by-cons}
use Rattle.patch_model.specs.Member.{In}

bit_le : (a b : Bool) → (a ≡ true → b ≡ true) → cond a 1 0 ≤ cond b 1 0
bit_le true b h = let t : b ≡ true = h refl in rw t (omega arith)
bit_le false b h = omega arith

count-cons : {X : Type 0} → (p : X → Bool) (x : X) (xs : List X) → count_by p (x ∷ xs) ≡ cond (p x) 1 0 + count_by p xs
count-cons p x xs = sum_by-cons (λ y. cond (p y) 1 0) x xs

pub count-append : {X : Type 0} → (p : X → Bool) (xs ys : List X) → count_by p (xs ++ ys) ≡ count_by p xs + count_by p ys
count-append p xs ys = sum_by-append (λ y. cond (p y) 1 0) xs ys

-- no more pass a stricter test
pub count_le : {X : Type 0} → (p q : X → Bool) (xs : List X) → ((x : X) → In xs x → p x ≡ true → q x ≡ true) → count_by p xs ≤ count_by q xs
count_le p q [] less = omega arith
count_le p q (x ∷ xs) less =
    let rest = count_le p q xs (λ y i. less y (inr i)) in
    let after = count-cons p x xs in
    let before = count-cons q x xs in
    let one = bit_le (p x) (q x) (less x (inl refl)) in omega arith

-- where one passes, some do
pub count_some : {X : Type 0} → (p : X → Bool) (xs : List X) (y : X) → In xs y → p y ≡ true → 0 < count_by p xs
count_some p [] y i passed = absurd i
count_some p (x ∷ xs) y (inl same) passed =
    let before = count-cons p x xs in
    let was : cond {A = ℕ} (p x) 1 0 ≡ 1 = rw (same, passed) refl in omega arith
count_some p (x ∷ xs) y (inr i) passed =
    let before = count-cons p x xs in
    let rest = count_some p xs y i passed in omega arith

-- a change after which no more pass
pub count-map_le : {X : Type 0} → (p : X → Bool) (g : X → X) (xs : List X) → ((x : X) → In xs x → p (g x) ≡ true → p x ≡ true) → count_by p (map g xs) ≤ count_by p xs
count-map_le p g [] keeps = omega arith
count-map_le p g (x ∷ xs) keeps =
    let rest = count-map_le p g xs (λ y i. keeps y (inr i)) in
    let after = count-cons p (g x) (map g xs) in
    let before = count-cons p x xs in
    let one = bit_le (p (g x)) (p x) (keeps x (inl refl)) in omega arith

-- a change after which one passes no more
pub count-map_lt : {X : Type 0} → (p : X → Bool) (g : X → X) (xs : List X) → ((x : X) → In xs x → p (g x) ≡ true → p x ≡ true)
    → (y : X) → In xs y → p y ≡ true → p (g y) ≡ false → count_by p (map g xs) < count_by p xs
count-map_lt p g [] keeps y i passed failed = absurd i
count-map_lt p g (x ∷ xs) keeps y (inl same) passed failed =
    let rest = count-map_le p g xs (λ y i. keeps y (inr i)) in
    let after = count-cons p (g x) (map g xs) in
    let before = count-cons p x xs in
    let was : cond {A = ℕ} (p x) 1 0 ≡ 1 = rw (same, passed) refl in
    let is_now : cond {A = ℕ} (p (g x)) 1 0 ≡ 0 = rw (same, failed) refl in omega arith
count-map_lt p g (x ∷ xs) keeps y (inr i) passed failed =
    let rest = count-map_lt p g xs (λ y i. keeps y (inr i)) y i passed failed in
    let after = count-cons p (g x) (map g xs) in
    let before = count-cons p x xs in
    let one = bit_le (p (g x)) (p x) (keeps x (inl refl)) in omega arith
