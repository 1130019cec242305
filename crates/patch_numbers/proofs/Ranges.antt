-- Numbers that lie in runs.
use Rattle.std.proofs.Common.{◌≡◌, ℕ, zero, suc, ◌+◌, ◌-◌, ◌<◌, ◌≤◌, ◌⊎◌, ◌∙◌, true, inl, inr, List, [], ◌∷◌, ◌++◌, length, take, get_or, min, refl, sym, ap, arith, append-nil}
use Rattle.std.specs.Prelude.{◌==◌, ◌||◌, ◌&&◌, nat_le, nat_lt, max}
use Rattle.std.specs.List.{list_any, range_with_len}
use Rattle.std.proofs.lemmas.Bool.{cases_Bool, cases_eq, both_ways, false_from_ne_true, or_cases, or_left, or_right, and_from, and_parts, eq-eqb, ne_eqb, eqb-true, lt-leb, le-leb, lt-ltb, leb-true, ltb-true}
use Rattle.std.proofs.lemmas.List.{take_more, length-append}
use Rattle.std.proofs.lemmas.List.FromFn.{length-range_with_len}
use Rattle.std.proofs.lemmas.List.Concat.{flat_map-append}
use Rattle.std.proofs.lemmas.List.Folds.{list_any-append}
use Rattle.patch_model.specs.Entry.{is_among}
use Rattle.patch_model.specs.Runs.{numbers_of, numbers_in}
use Rattle.patch_model.specs.declared.runs.Run.{Run}

-- A number among some that follow one another.

range-among : (a n x : ℕ) → a ≤ x → x < a + n → is_among (range_with_len a n) x ≡ true
range-among a zero x low high = absurd (omega (arith, low, high))
range-among a (suc n) x low high = elim (cases_eq a x) [
  | inl e ↦ or_left _ (is_among (range_with_len (a + 1) n) x) (eq-eqb a x e)
  | inr d ↦ or_right (a == x) _ (range-among (a + 1) n x (omega (arith, low, d)) (omega (arith, high)))
]

among-range : (a n x : ℕ) → is_among (range_with_len a n) x ≡ true → (a ≤ x) × (x < a + n)
among-range a zero x t = absurd (cc)
among-range a (suc n) x t = elim (or_cases (a == x) (is_among (range_with_len (a + 1) n) x) t) [
  | inl e ↦ let same : a ≡ x = eqb-true a x e in (omega (arith, same), omega (arith, same))
  | inr i ↦ let r = among-range (a + 1) n x i in (omega (arith, r.0), omega (arith, r.1))
]

among-both : (xs ys : List ℕ) (x : ℕ) → is_among (xs ++ ys) x ≡ (is_among xs x || is_among ys x)
among-both xs ys x = list_any-append (λ m. m == x) xs ys

-- A number of a run.

run-among : (r : Run) (x : ℕ) → (x ≡ r.last) ⊎ ((r.first ≤ x) × (x < r.last)) → is_among (numbers_of r) x ≡ true
run-among r x (inl e) =
    among-both (range_with_len r.first (r.last - r.first)) (r.last ∷ []) x
    ∙ or_right (is_among (range_with_len r.first (r.last - r.first)) x) _ (or_left (r.last == x) _ (eq-eqb r.last x (sym e)))
run-among r x (inr h) =
    among-both (range_with_len r.first (r.last - r.first)) (r.last ∷ []) x
    ∙ or_left _ (is_among (r.last ∷ []) x) (range-among r.first (r.last - r.first) x h.0 (omega (arith, h.0, h.1)))

among-run : (r : Run) (x : ℕ) → is_among (numbers_of r) x ≡ true → (x ≡ r.last) ⊎ ((r.first ≤ x) × (x < r.last))
among-run r x t = elim (or_cases (is_among (range_with_len r.first (r.last - r.first)) x) (is_among (r.last ∷ []) x) (sym (among-both (range_with_len r.first (r.last - r.first)) (r.last ∷ []) x) ∙ t)) [
  | inl i ↦ let h = among-range r.first (r.last - r.first) x i in inr (h.0, omega (arith, h.0, h.1))
  | inr i ↦ elim (or_cases (r.last == x) _ i) [ inl e ↦ inl (sym (eqb-true r.last x e)) | inr none ↦ absurd (cc) ]
]

-- what is asked of a run tells whether the number is one of its own
of_run : (r : Run) (x : ℕ) → (x == r.last || nat_le r.first x && nat_lt x r.last) ≡ is_among (numbers_of r) x
of_run r x = elim (cases_Bool (is_among (numbers_of r) x)) [
  | inl t ↦ asked (among-run r x t) ∙ sym t
  | inr f ↦ false_from_ne_true _ (λ t. both_ways _ f (run-among r x (told t))) ∙ sym f
]
  where
    asked : (x ≡ r.last) ⊎ ((r.first ≤ x) × (x < r.last)) → (x == r.last || nat_le r.first x && nat_lt x r.last) ≡ true
    asked (inl e) = or_left _ (nat_le r.first x && nat_lt x r.last) (eq-eqb x r.last e)
    asked (inr h) = or_right (x == r.last) _ (and_from _ _ (le-leb r.first x h.0) (lt-ltb x r.last h.1))

    told : (x == r.last || nat_le r.first x && nat_lt x r.last) ≡ true → (x ≡ r.last) ⊎ ((r.first ≤ x) × (x < r.last))
    told t = elim (or_cases (x == r.last) (nat_le r.first x && nat_lt x r.last) t) [
      | inl e ↦ inl (eqb-true x r.last e)
      | inr h ↦ let p = and_parts (nat_le r.first x) (nat_lt x r.last) h in inr (leb-true r.first x p.0, ltb-true x r.last p.1)
    ]

-- and so for one that isn't its last: from its first on, and below that
pub from_first : (r : Run) (x : ℕ) → (x ≡ r.last → ⊥) → r.first ≤ x → nat_lt x r.last ≡ is_among (numbers_of r) x
from_first r x other low =
    sym (ap (λ t. t || (nat_le r.first x && nat_lt x r.last)) (ne_eqb x r.last other) ∙ ap (λ t. t && nat_lt x r.last) (le-leb r.first x low)) ∙ of_run r x

pub below_first : (r : Run) (x : ℕ) → (x ≡ r.last → ⊥) → x < r.first → nat_le r.first x ≡ is_among (numbers_of r) x
below_first r x other low =
    lt-leb r.first x low
    ∙ sym (ap (λ t. t || (nat_le r.first x && nat_lt x r.last)) (ne_eqb x r.last other) ∙ ap (λ t. t && nat_lt x r.last) (lt-leb r.first x low)) ∙ of_run r x

pub its_last : (r : Run) (x : ℕ) → x ≡ r.last → (x == r.last) ≡ is_among (numbers_of r) x
its_last r x e = eq-eqb x r.last e ∙ sym (run-among r x (inl e))

-- Several runs.

pub of_some_run : (rs : List Run) (x : ℕ) → list_any (λ r. is_among (numbers_of r) x) rs ≡ is_among (numbers_in rs) x
of_some_run [] x = refl
of_some_run (r ∷ rs) x = ap (λ t. is_among (numbers_of r) x || t) (of_some_run rs x) ∙ sym (among-both (numbers_of r) (numbers_in rs) x)

-- one run more
pub numbers_in-more : (rs : List Run) (i : ℕ) (d : Run) → i < length rs → numbers_in (take (i + 1) rs) ≡ numbers_in (take i rs) ++ numbers_of (get_or rs i d)
numbers_in-more rs i d within =
    ap numbers_in (take_more rs i d within) ∙ flat_map-append numbers_of (take i rs) (get_or rs i d ∷ [])
    ∙ ap (λ ns. numbers_in (take i rs) ++ ns) (append-nil (numbers_of (get_or rs i d)))

-- the numbers of one run more lie round about with the others
pub around-more : (rs : List Run) (i : ℕ) (d : Run) (a b first last : ℕ) → i < length rs
    → first ≡ min (min a (get_or rs i d).first) (get_or rs i d).last → last ≡ max b (get_or rs i d).last
    → ((n : ℕ) → is_among (numbers_in (take i rs)) n ≡ true → (a ≤ n) × (n ≤ b))
    → (n : ℕ) → is_among (numbers_in (take (i + 1) rs)) n ≡ true → (first ≤ n) × (n ≤ last)
around-more rs i d a b first last within low high before n t =
    let r : Run = get_or rs i d in
    let both = sym (ap (λ ns. is_among ns n) (numbers_in-more rs i d within) ∙ among-both (numbers_in (take i rs)) (numbers_of r) n) ∙ t in
    elim (or_cases (is_among (numbers_in (take i rs)) n) (is_among (numbers_of r) n) both) [
      | inl old ↦ let h = before n old in (omega (arith, h.0, low), omega (arith, h.1, high))
      | inr new ↦ elim (among-run r n new) [
        | inl e ↦ (omega (arith, e, low), omega (arith, e, high))
        | inr h ↦ (omega (arith, h.0, low), omega (arith, h.1, high))
      ]
    ]

range-more : (first n : ℕ) → range_with_len first (n + 1) ≡ range_with_len first n ++ (first + n) ∷ []
range-more first zero = let e : first ≡ first + 0 = omega arith in ap (λ k. k ∷ []) e
range-more first (suc n) =
    let e : suc n + 1 ≡ suc (n + 1) = omega arith in
    let f : first + 1 + n ≡ first + suc n = omega arith in
    ap (range_with_len first) e ∙ ap (λ xs. first ∷ xs) (range-more (first + 1) n) ∙ ap (λ k. first ∷ (range_with_len (first + 1) n ++ k ∷ [])) f

-- one number more behind those before it
pub range_next : (first at : ℕ) → first ≤ at → range_with_len first (at + 1 - first) ≡ range_with_len first (at - first) ++ at ∷ []
range_next first at le =
    let a : at + 1 - first ≡ (at - first) + 1 = omega arith in
    let b : first + (at - first) ≡ at = omega arith in
    ap (range_with_len first) a ∙ range-more first (at - first) ∙ ap (λ k. range_with_len first (at - first) ++ k ∷ []) b

pub range_begun : (first : ℕ) → range_with_len first (first - first) ≡ []
range_begun first = let e : first - first ≡ 0 = omega arith in ap (range_with_len first) e

-- How many numbers there are.

numbers_of-length : (r : Run) → length (numbers_of r) ≡ (r.last - r.first) + 1
numbers_of-length r =
    length-append (range_with_len r.first (r.last - r.first)) (r.last ∷ []) ∙ ap (λ n. n + 1) (length-range_with_len r.first (r.last - r.first))

-- of one run more
pub count-more : (rs : List Run) (i : ℕ) (d : Run) → i < length rs
    → length (numbers_in (take (i + 1) rs)) ≡ length (numbers_in (take i rs)) + (((get_or rs i d).last - (get_or rs i d).first) + 1)
count-more rs i d within =
    ap length (numbers_in-more rs i d within) ∙ length-append (numbers_in (take i rs)) (numbers_of (get_or rs i d))
    ∙ ap (λ n. length (numbers_in (take i rs)) + n) (numbers_of-length (get_or rs i d))

-- the first runs have no more than all
pub count-take : (rs : List Run) (i : ℕ) → length (numbers_in (take i rs)) ≤ length (numbers_in rs)
count-take [] zero = omega arith
count-take [] (suc i) = omega arith
count-take (r ∷ rs) zero = omega arith
count-take (r ∷ rs) (suc i) =
    let a = length-append (numbers_of r) (numbers_in (take i rs)) in
    let b = length-append (numbers_of r) (numbers_in rs) in
    let c = count-take rs i in omega (arith, a, b, c)
