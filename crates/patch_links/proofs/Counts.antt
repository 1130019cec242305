-- How many of a list pass.
use Rattle.std.proofs.Common.{◌≡◌, ℕ, ◌+◌, ◌<◌, ◌≤◌, inl, inr, Bool, true, false, List, [], ◌∷◌, ◌++◌, refl, ap, arith}
use Rattle.std.specs.Prelude.{cond, count_by, ◌==◌}
use Rattle.std.proofs.lemmas.Bool.{cases_Bool, eq-eqb}
use Rattle.std.proofs.lemmas.List.Sums.{sum_by-append, sum_by-cons}
use Rattle.patch_model.specs.Member.{In}
use Rattle.patch_links.specs.Lists.{times, once}

pub count-cons : {X : Type 0} → (p : X → Bool) (x : X) (xs : List X) → count_by p (x ∷ xs) ≡ once (p x) + count_by p xs
count-cons p x xs = sum_by-cons (λ y. cond (p y) 1 0) x xs

pub count-append : {X : Type 0} → (p : X → Bool) (xs ys : List X) → count_by p (xs ++ ys) ≡ count_by p xs + count_by p ys
count-append p xs ys = sum_by-append (λ y. cond (p y) 1 0) xs ys

pub count-last : {X : Type 0} → (p : X → Bool) (xs : List X) (x : X) → count_by p (xs ++ x ∷ []) ≡ count_by p xs + once (p x)
count-last p xs x =
    let both = count-append p xs (x ∷ []) in
    let last = count-cons p x [] in omega arith

pub count-same : {X : Type 0} → (p q : X → Bool) (xs : List X) → ((x : X) → p x ≡ q x) → count_by p xs ≡ count_by q xs
count-same p q [] same = refl
count-same p q (x ∷ xs) same =
    let rest = count-same p q xs same in
    let a = count-cons p x xs in
    let b = count-cons q x xs in
    let one : once (p x) ≡ once (q x) = ap once (same x) in omega arith

-- two tests of which each passing one passes just one
pub count-split : {X : Type 0} → (p q r : X → Bool) (xs : List X) → ((x : X) → once (p x) + once (q x) ≡ once (r x)) → count_by p xs + count_by q xs ≡ count_by r xs
count-split p q r [] split = refl
count-split p q r (x ∷ xs) split =
    let rest = count-split p q r xs split in
    let a = count-cons p x xs in
    let b = count-cons q x xs in
    let c = count-cons r x xs in
    let one = split x in omega arith

pub once-le : (a b : Bool) → (a ≡ true → b ≡ true) → once a ≤ once b
once-le true b h = let t : b ≡ true = h refl in rw t (omega arith)
once-le false b h = omega arith

pub once-most : (a : Bool) → once a ≤ 1
once-most true = omega arith
once-most false = omega arith

pub once-true : (a : Bool) → 0 < once a → a ≡ true
once-true true h = refl
once-true false h = absurd (omega arith)

pub once-false : (a : Bool) → once a ≡ 0 → a ≡ false
once-false true h = absurd (omega arith)
once-false false h = refl

pub count-le : {X : Type 0} → (p q : X → Bool) (xs : List X) → ((x : X) → p x ≡ true → q x ≡ true) → count_by p xs ≤ count_by q xs
count-le p q [] keeps = omega arith
count-le p q (x ∷ xs) keeps =
    let rest = count-le p q xs keeps in
    let a = count-cons p x xs in
    let b = count-cons q x xs in
    let one = once-le (p x) (q x) (keeps x) in omega arith

pub count-none : {X : Type 0} → (p : X → Bool) (xs : List X) → ((x : X) → p x ≡ false) → count_by p xs ≡ 0
count-none p [] none = refl
count-none p (x ∷ xs) none =
    let rest = count-none p xs none in
    let a = count-cons p x xs in
    let one : once (p x) ≡ 0 = ap once (none x) in omega arith

pub count-zero : {X : Type 0} → (p : X → Bool) (xs : List X) (x : X) → count_by p xs ≡ 0 → In xs x → p x ≡ false
count-zero p [] x none i = absurd i
count-zero p (y ∷ xs) x none i =
    let a = count-cons p y xs in
    elim i [
      | inl e ↦ once-false (p x) (let same : once (p y) ≡ once (p x) = ap (λ z. once (p z)) e in omega arith)
      | inr j ↦ count-zero p xs x (omega arith) j
    ]

pub count-some : {X : Type 0} → (p : X → Bool) (xs : List X) → 0 < count_by p xs → (x : X) × In xs x × (p x ≡ true)
count-some p [] h = absurd (omega arith)
count-some p (x ∷ xs) h = elim (cases_Bool (p x)) [
  | inl t ↦ (x, inl refl, t)
  | inr t ↦
      let a = count-cons p x xs in
      let one : once (p x) ≡ 0 = ap once t in
      let r = count-some p xs (omega arith) in (r.0, inr r.1, r.2)
]

pub times-In : (keys : List ℕ) (key : ℕ) → In keys key → 0 < times keys key
times-In [] key i = absurd i
times-In (k ∷ keys) key (inl e) =
    let a = count-cons (λ j. j == key) k keys in
    let one : once (k == key) ≡ 1 = ap once (eq-eqb k key e) in omega arith
times-In (k ∷ keys) key (inr i) =
    let a = count-cons (λ j. j == key) k keys in
    let rest = times-In keys key i in omega arith

-- two tests that agree on what is in the list
pub count-same-in : {X : Type 0} → (p q : X → Bool) (xs : List X) → ((x : X) → In xs x → p x ≡ q x) → count_by p xs ≡ count_by q xs
count-same-in p q [] same = refl
count-same-in p q (x ∷ xs) same =
    let rest = count-same-in p q xs (λ y i. same y (inr i)) in
    let a = count-cons p x xs in
    let b = count-cons q x xs in
    let one : once (p x) ≡ once (q x) = ap once (same x (inl refl)) in omega arith
