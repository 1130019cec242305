-- What is found in a list, and the least of some numbers.
use Rattle.std.proofs.Common.{◌≡◌, ℕ, ◌≤◌, ◌⊎◌, ◌∙◌, inl, inr, Bool, true, false, List, [], ◌∷◌, Some, None, refl, sym, ap, arith, min, fold}
use Rattle.std.specs.Prelude.{find}
use Rattle.std.proofs.lemmas.Bool.{cases_Bool}
use Rattle.patch_model.specs.Member.{In}
use Rattle.patch_model.specs.Refusing.{least}

-- the one that passes is found
pub find_is : {X : Type 0} → (p : X → Bool) (xs : List X) (x : X) → In xs x → p x ≡ true → ((y : X) → In xs y → p y ≡ true → y ≡ x) → find p xs ≡ Some x
find_is p [] x h t only = absurd h
find_is p (y ∷ ys) x (inl e) t only = let u : p y ≡ true = ap p e ∙ t in rw u (ap Some e)
find_is p (y ∷ ys) x (inr h) t only = elim (cases_Bool (p y)) [
  | inl u ↦ rw u (ap Some (only y (inl refl) u))
  | inr u ↦ rw u (find_is p ys x h t (λ z g. only z (inr g)))
]

pub find_none : {X : Type 0} → (p : X → Bool) (xs : List X) → ((x : X) → In xs x → p x ≡ false) → find p xs ≡ None
find_none p [] f = refl
find_none p (y ∷ ys) f = rw (f y (inl refl)) (find_none p ys (λ x h. f x (inr h)))

fold_min : (a n : ℕ) (ns : List ℕ) → (a ≡ n) ⊎ In ns n → n ≤ a → ((m : ℕ) → In ns m → n ≤ m) → fold min a ns ≡ n
fold_min a n [] (inl e) low all = e
fold_min a n [] (inr h) low all = absurd h
fold_min a n (x ∷ xs) (inl e) low all =
    let here : n ≤ x = all x (inl refl) in
    let same : min a x ≡ n = omega (arith, e) in
    fold_min (min a x) n xs (inl same) (omega (arith, e)) (λ m h. all m (inr h))
fold_min a n (x ∷ xs) (inr (inl e)) low all =
    let same : min a x ≡ n = omega (arith, e) in
    fold_min (min a x) n xs (inl same) (omega (arith, e)) (λ m h. all m (inr h))
fold_min a n (x ∷ xs) (inr (inr h)) low all =
    let here : n ≤ x = all x (inl refl) in
    fold_min (min a x) n xs (inr h) (omega arith) (λ m g. all m (inr g))

-- the least of some numbers is the one of them that none is below
pub least_is : (ns : List ℕ) (n : ℕ) → In ns n → ((m : ℕ) → In ns m → n ≤ m) → least ns ≡ Some n
least_is [] n h all = absurd h
least_is (x ∷ xs) n h all = ap Some (fold_min x n xs h (all x (inl refl)) (λ m g. all m (inr g)))

pub least_of_none : (ns : List ℕ) → ((m : ℕ) → In ns m → ⊥) → least ns ≡ None
least_of_none [] none = refl
least_of_none (x ∷ xs) none = absurd (none x (inl refl))

-- what is found passes
pub find_in : {X : Type 0} → (p : X → Bool) (xs : List X) (x : X) → find p xs ≡ Some x → In xs x × (p x ≡ true)
find_in p [] x e = absurd (cc)
find_in p (y ∷ ys) x e = elim (cases_Bool (p y)) [
  | inl t ↦ let same : y ≡ x = let two : Some y ≡ Some x = rw t at e in cc in (inl same, ap p (sym same) ∙ t)
  | inr f ↦ let r = find_in p ys x (rw f at e) in (inr r.0, r.1)
]
