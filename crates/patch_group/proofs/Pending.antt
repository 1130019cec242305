-- Which patches are pending, and their counts.
use Rattle.std.proofs.Common.{◌≡◌, ℕ, ◌+◌, ◌≤◌, ◌∙◌, inl, inr, Bool, false, List, [], ◌∷◌, ◌++◌, length, refl, sym, ap, arith}
use Rattle.std.specs.Prelude.{◌==◌, ◌&&◌, not, cond, Contains, filter, min, count_by, if◌then◌else◌}
use Rattle.std.specs.List.{fold}
use Rattle.std.proofs.lemmas.Bool.{cases_Bool, and_parts, and_from, eq-eqb, eqb-true, both_ways}
use Rattle.std.proofs.lemmas.List.Sums.{sum_by-cons}
use Rattle.patch_model.specs.Entry.{Entry, is_live, marks_durable}
use Rattle.patch_model.specs.Member.{In, Contains-from_In, list_any-from, list_any-at}
use Rattle.patch_model.specs.Orderly.{IsOrderly, IsNumbered}
use Rattle.patch_plans.specs.Groups.{is_pending}

pub pending_at : (all : List Entry) (n : ℕ) (e : Entry) → IsOrderly all → In all e → e.patch.no ≡ n → is_pending all n ≡ not (marks_durable e.mark)
pending_at all n e orderly i named = elim (cases_Bool (is_live e)) [
  | inl t ↦ list_any-from (λ x. x.patch.no == n && is_live x) all e i (and_from _ _ (eq-eqb _ _ named) t) ∙ sym t
  | inr f ↦ elim (cases_Bool (is_pending all n)) [
    | inl t ↦
        let x = list_any-at (λ x. x.patch.no == n && is_live x) all t in
        let parts = and_parts _ _ x.2 in
        let same = orderly.apart x.0 e (Contains-from_In all x.0 x.1) (Contains-from_In all e i) (eqb-true _ _ parts.0 ∙ sym named) in
        absurd (both_ways _ f (ap is_live (sym same) ∙ parts.1))
    | inr u ↦ u ∙ sym f
  ]
]

pub none_pending : (all : List Entry) (n : ℕ) → IsNumbered all → length all ≤ n → is_pending all n ≡ false
none_pending all n numbered past = elim (cases_Bool (is_pending all n)) [
  | inl t ↦
      let x = list_any-at (λ x. x.patch.no == n && is_live x) all t in
      let parts = and_parts _ _ x.2 in
      let named : x.0.patch.no ≡ n = eqb-true _ _ parts.0 in
      let below = numbered.below x.0 (Contains-from_In all x.0 x.1) in
      absurd (omega (arith, named, below, past))
  | inr u ↦ u
]

count_from : (p : ℕ → Bool) (a : ℕ) (ns : List ℕ) → fold (λ k n. k + (if p n then 1 else 0)) a ns ≡ a + fold (λ k n. k + (if p n then 1 else 0)) 0 ns
count_from p a [] = omega arith
count_from p a (n ∷ ns) =
    let one = count_from p (a + (if p n then 1 else 0)) ns in
    let two = count_from p (0 + (if p n then 1 else 0)) ns in
    omega (arith, one, two)

fold-append : (f : ℕ → ℕ → ℕ) (a : ℕ) (ms ns : List ℕ) → fold f a (ms ++ ns) ≡ fold f (fold f a ms) ns
fold-append f a [] ns = refl
fold-append f a (m ∷ ms) ns = fold-append f (f a m) ms ns

pub count_by-append : (p : ℕ → Bool) (ms ns : List ℕ) → count_by p (ms ++ ns) ≡ count_by p ms + count_by p ns
count_by-append p ms ns = fold-append (λ k n. k + (if p n then 1 else 0)) 0 ms ns ∙ count_from p (count_by p ms) ns

pub count_by-push : (p : ℕ → Bool) (ns : List ℕ) (n : ℕ) → count_by p (ns ++ n ∷ []) ≡ count_by p ns + (if p n then 1 else 0)
count_by-push p ns n =
    let one : 0 + (if p n then 1 else 0) ≡ (if p n then 1 else 0) = omega arith in
    count_by-append p ns (n ∷ []) ∙ ap (λ k. count_by p ns + k) one

pub capped : (before a b now count top : ℕ) → count ≡ min (before + a) top → now ≡ min (count + b) top → now ≡ min (before + (a + b)) top
capped before a b now count top e f = omega (arith, e, f)

-- Patches that are waited for.

pub filter_both : (p : ℕ → Bool) (ms ns : List ℕ) → filter p (ms ++ ns) ≡ filter p ms ++ filter p ns
filter_both p [] ns = refl
filter_both p (m ∷ ms) ns = elim (cases_Bool (p m)) [
  | inl t ↦ rw t (ap (λ xs. m ∷ xs) (filter_both p ms ns))
  | inr f ↦ rw f (filter_both p ms ns)
]

pub one_first : (p : ℕ → Bool) (n : ℕ) (ns : List ℕ) → count_by p (n ∷ ns) ≡ cond (p n) 1 0 + count_by p ns
one_first p n ns = sum_by-cons (λ y. cond (p y) 1 0) n ns

none_first : (p : ℕ → Bool) (n : ℕ) (ns : List ℕ) → count_by p (n ∷ ns) ≡ 0 → (p n ≡ false) × (count_by p ns ≡ 0)
none_first p n ns none = elim (cases_Bool (p n)) [
  | inl t ↦ (let all = one_first p n ns in let one : cond {A = ℕ} (p n) 1 0 ≡ 1 = rw t refl in absurd (omega (arith, all, one, none)))
  | inr f ↦ (let all = one_first p n ns in let one : cond {A = ℕ} (p n) 1 0 ≡ 0 = rw f refl in (f, omega (arith, all, one, none)))
]

pub none_more : (p : ℕ → Bool) (n : ℕ) (ns : List ℕ) → p n ≡ false → count_by p ns ≡ 0 → count_by p (n ∷ ns) ≡ 0
none_more p n ns f rest = let all = one_first p n ns in let one : cond {A = ℕ} (p n) 1 0 ≡ 0 = rw f refl in omega (arith, all, one, rest)

-- what doesn't pass one test doesn't pass the other
abbrev pub FailsToo : (ℕ → Bool) → (ℕ → Bool) → Type 0
FailsToo p q = (n : ℕ) → p n ≡ false → q n ≡ false

pub none_still : (p q : ℕ → Bool) (ns : List ℕ) → FailsToo p q → count_by p ns ≡ 0 → count_by q ns ≡ 0
none_still p q [] fails none = refl
none_still p q (n ∷ ns) fails none = let parts = none_first p n ns none in none_more q n ns (fails n parts.0) (none_still p q ns fails parts.1)

-- where none of those is left that were pending, none of all is
pub none_left : (p q : ℕ → Bool) (ns : List ℕ) → FailsToo p q → count_by q (filter p ns) ≡ 0 → count_by q ns ≡ 0
none_left p q [] fails none = refl
none_left p q (n ∷ ns) fails none = elim (cases_Bool (p n)) [
  | inl t ↦ (let rest : count_by q (n ∷ filter p ns) ≡ 0 = rw t at none in let parts = none_first q n (filter p ns) rest in none_more q n ns parts.0 (none_left p q ns fails parts.1))
  | inr f ↦ none_more q n ns (fails n f) (none_left p q ns fails (rw f at none))
]

-- where no patch is live, none is pending
pub none_pending_of : (all : List Entry) (ns : List ℕ) → ((e : Entry) → Contains all e → is_live e ≡ false) → count_by (is_pending all) ns ≡ 0
none_pending_of all [] dead = refl
none_pending_of all (n ∷ ns) dead = none_more (is_pending all) n ns (elim (cases_Bool (is_pending all n)) [
  | inl t ↦
      let x = list_any-at (λ x. x.patch.no == n && is_live x) all t in
      absurd (both_ways _ (dead x.0 (Contains-from_In all x.0 x.1)) (and_parts _ _ x.2).1)
  | inr f ↦ f
]) (none_pending_of all ns dead)
