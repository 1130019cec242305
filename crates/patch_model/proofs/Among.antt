-- What is among some numbers.
use Rattle.std.proofs.Common.{◌≡◌, ℕ, inl, inr, true, false, List, [], ◌∷◌, map, refl, ap, arith}
use Rattle.std.specs.Prelude.{◌==◌}
use Rattle.std.proofs.lemmas.Bool.{cases_Bool}
use Rattle.std.proofs.lemmas.Bool.Decides.{nat_tests}
use Rattle.patch_model.specs.Entry.{is_among}
use Rattle.patch_model.specs.Member.{In}

-- a number that something of the list has
pub among_map-at : {X : Type 0} → (f : X → ℕ) (xs : List X) (n : ℕ) → is_among (map f xs) n ≡ true → (x : X) × In xs x × (f x ≡ n)
among_map-at f [] n h = let bad : false ≡ true = h in absurd (cc)
among_map-at f (x ∷ xs) n h = elim (cases_Bool (f x == n)) [
  | inl u ↦ (x, inl refl, grind (arith, nat_tests))
  | inr u ↦ let r = among_map-at f xs n (rw u at h) in (r.0, inr r.1, r.2)
]

pub among_map-from : {X : Type 0} → (f : X → ℕ) (xs : List X) (x : X) → In xs x → is_among (map f xs) (f x) ≡ true
among_map-from f [] x i = absurd i
among_map-from f (y ∷ ys) x (inl e) = let same : f y ≡ f x = ap f e in let u : (f y == f x) ≡ true = grind (arith, nat_tests) in rw u refl
among_map-from f (y ∷ ys) x (inr i) = elim (cases_Bool (f y == f x)) [ inl u ↦ rw u refl | inr u ↦ rw u (among_map-from f ys x i) ]
