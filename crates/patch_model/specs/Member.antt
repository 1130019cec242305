-- Members of a list by cases on it, and what tests and filters say of them: the lemmas of every crate's proofs.
use Rattle.std.proofs.Common.{◌≡◌, ℕ, zero, suc, ◌<◌, ◌⊎◌, ◌∙◌, inl, inr, Bool, true, List, [], ◌∷◌, length, map, refl, sym, ap, arith, subst}
use Rattle.std.proofs.lemmas.Bool.{cases_Bool, and_parts, and_from, eqb-true, eq-eqb}
use Rattle.std.specs.Prelude.{◌&&◌, ◌==◌}
use Rattle.std.specs.List.{Contains, filter, list_all, list_any, slice_index_or}
use Rattle.patch_model.specs.Entry.{is_among}

abbrev pub In : {X : Type 0} → List X → X → Type 0
In [] x = ⊥
In (y ∷ ys) x = (y ≡ x) ⊎ In ys x

In-from_at : {X : Type 0} → (xs : List X) (x : X) (k : ℕ) → k < length xs → slice_index_or xs k x ≡ x → In xs x
In-from_at [] x k h e = absurd (omega arith)
In-from_at (y ∷ ys) x zero h e = inl e
In-from_at (y ∷ ys) x (suc k) h e = inr (In-from_at ys x k (omega arith) e)

pub In-from_Contains : {X : Type 0} → (xs : List X) (x : X) → Contains xs x → In xs x
In-from_Contains xs x h = In-from_at xs x h.0 h.1 h.2

pub Contains-from_In : {X : Type 0} → (xs : List X) (x : X) → In xs x → Contains xs x
Contains-from_In [] x h = absurd h
Contains-from_In (y ∷ ys) x (inl e) = (0, omega arith, e)
Contains-from_In (y ∷ ys) x (inr h) = let r = Contains-from_In ys x h in (suc r.0, omega arith, r.2)

pub In-filter : {X : Type 0} → (p : X → Bool) (xs : List X) (x : X) → In xs x → p x ≡ true → In (filter p xs) x
In-filter p [] x h t = h
In-filter p (y ∷ ys) x (inl e) t = let u : p y ≡ true = ap p e ∙ t in rw u (inl e)
In-filter p (y ∷ ys) x (inr h) t = elim (cases_Bool (p y)) [ inl u ↦ rw u (inr (In-filter p ys x h t)) | inr u ↦ rw u (In-filter p ys x h t) ]

pub filter-In : {X : Type 0} → (p : X → Bool) (xs : List X) (x : X) → In (filter p xs) x → In xs x × (p x ≡ true)
filter-In p [] x h = absurd h
filter-In p (y ∷ ys) x h = elim (cases_Bool (p y)) [
  | inl u ↦ elim (rw u at h) [ inl e ↦ (inl e, sym (ap p e) ∙ u) | inr g ↦ let r = filter-In p ys x g in (inr r.0, r.1) ]
  | inr u ↦ let r = filter-In p ys x (rw u at h) in (inr r.0, r.1)
]

-- a filter keeps the whole list, or makes it shorter
pub filter_cases : {X : Type 0} → (p : X → Bool) (xs : List X) → (((x : X) → In xs x → p x ≡ true) × (filter p xs ≡ xs)) ⊎ (length (filter p xs) < length xs)
filter_cases p [] = inl ((λ x h. absurd h), refl)
filter_cases p (y ∷ ys) = elim (cases_Bool (p y)) [
  | inl u ↦ elim (filter_cases p ys) [
    | inl r ↦ inl ((λ x h. elim h [ inl e ↦ sym (ap p e) ∙ u | inr g ↦ r.0 x g ]), rw u (ap (λ zs. y ∷ zs) r.1))
    | inr s ↦ inr (rw u (omega arith))
  ]
  | inr u ↦ inr (rw u (elim (filter_cases p ys) [ inl r ↦ let e : length (filter p ys) ≡ length ys = ap length r.1 in omega arith | inr s ↦ omega arith ]))
]

pub list_all-at : {X : Type 0} → (p : X → Bool) (xs : List X) (x : X) → list_all p xs ≡ true → In xs x → p x ≡ true
list_all-at p [] x t h = absurd h
list_all-at p (y ∷ ys) x t (inl e) = sym (ap p e) ∙ (and_parts _ _ t).0
list_all-at p (y ∷ ys) x t (inr h) = list_all-at p ys x (and_parts _ _ t).1 h

pub list_all-from : {X : Type 0} → (p : X → Bool) (xs : List X) → ((x : X) → In xs x → p x ≡ true) → list_all p xs ≡ true
list_all-from p [] f = refl
list_all-from p (y ∷ ys) f = and_from _ _ (f y (inl refl)) (list_all-from p ys (λ x h. f x (inr h)))

pub list_any-from : {X : Type 0} → (p : X → Bool) (xs : List X) (x : X) → In xs x → p x ≡ true → list_any p xs ≡ true
list_any-from p [] x h t = absurd h
list_any-from p (y ∷ ys) x (inl e) t = let u : p y ≡ true = ap p e ∙ t in rw u refl
list_any-from p (y ∷ ys) x (inr h) t = let u = list_any-from p ys x h t in elim (cases_Bool (p y)) [ inl v ↦ rw v refl | inr v ↦ rw v u ]

pub list_any-at : {X : Type 0} → (p : X → Bool) (xs : List X) → list_any p xs ≡ true → (x : X) × In xs x × (p x ≡ true)
list_any-at p [] t = absurd (cc)
list_any-at p (y ∷ ys) t = elim (cases_Bool (p y)) [
  | inl u ↦ (y, inl refl, u)
  | inr u ↦ let r = list_any-at p ys (rw u at t) in (r.0, inr r.1, r.2)
]

-- two filters are one that asks both
pub filter-filter : {X : Type 0} → (p q : X → Bool) (xs : List X) → filter p (filter q xs) ≡ filter (λ x. q x && p x) xs
filter-filter p q [] = refl
filter-filter p q (y ∷ ys) = elim (cases_Bool (q y)) [
  | inl u ↦ elim (cases_Bool (p y)) [
    | inl v ↦ rw (u, v) (ap (λ zs. y ∷ zs) (filter-filter p q ys))
    | inr v ↦ rw (u, v) (filter-filter p q ys)
  ]
  | inr u ↦ rw u (filter-filter p q ys)
]

-- filters that answer alike keep the same
pub filter-same : {X : Type 0} → (p q : X → Bool) (xs : List X) → ((x : X) → p x ≡ q x) → filter p xs ≡ filter q xs
filter-same p q [] same = refl
filter-same p q (x ∷ xs) same = rw (same x, filter-same p q xs same) refl

pub In-map : {X Y : Type 0} → (f : X → Y) (xs : List X) (x : X) → In xs x → In (map f xs) (f x)
In-map f [] x h = absurd h
In-map f (y ∷ ys) x (inl e) = inl (ap f e)
In-map f (y ∷ ys) x (inr h) = inr (In-map f ys x h)

pub map-In : {X Y : Type 0} → (f : X → Y) (xs : List X) (y : Y) → In (map f xs) y → (x : X) × In xs x × (f x ≡ y)
map-In f [] y h = absurd h
map-In f (x ∷ xs) y (inl e) = (x, inl refl, e)
map-In f (x ∷ xs) y (inr h) = let r = map-In f xs y h in (r.0, inr r.1, r.2)

pub among-In : (numbers : List ℕ) (n : ℕ) → is_among numbers n ≡ true → In numbers n
among-In numbers n t = let r = list_any-at (λ m. m == n) numbers t in subst (In numbers) (eqb-true r.0 n r.2) r.1

pub In-among : (numbers : List ℕ) (n : ℕ) → In numbers n → is_among numbers n ≡ true
In-among numbers n h = list_any-from (λ m. m == n) numbers n h (eq-eqb n n refl)
