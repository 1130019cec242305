-- What is left of a set when nothing more need be struck out of it.
use Rattle.std.proofs.Common.{◌≡◌, ℕ, zero, suc, ◌≤◌, ◌⊎◌, inl, inr, Bool, true, false, not, ◌||◌, List, [], ◌∷◌, length, refl, sym, ap, arith, subst}
use Rattle.std.proofs.lemmas.Bool.{cases_Bool, and_parts, and_from, or_cases}
use Rattle.std.proofs.lemmas.Bool.Decides.{nat_tests}
use Rattle.std.specs.Prelude.{◌==◌}
use Rattle.std.specs.List.{filter}
use Rattle.patch_model.specs.Entry.{Entry, in_memory_of, is_durable}
use Rattle.patch_model.specs.Entries.{AreApart, has-In, In-has}
use Rattle.patch_model.specs.Dependency.{depends_directly}
use Rattle.patch_model.specs.Ready.{struck, has, may_stay, ready, IsWritable, IsLargestWritable}
use Rattle.patch_model.specs.Member.{In, In-filter, filter-In, filter_cases, list_all-at, list_all-from, In-from_Contains, Contains-from_In}

struck-In : (n : ℕ) (stays : List Entry → Entry → Bool) (set : List Entry) (e : Entry) → In (struck n stays set) e → In set e
struck-In zero stays set e h = h
struck-In (suc n) stays set e h = (filter-In (stays set) set e (struck-In n stays (filter (stays set) set) e h)).0

-- a set of which all stay is left as it is
struck-stable : (n : ℕ) (stays : List Entry → Entry → Bool) (set : List Entry) → filter (stays set) set ≡ set → struck n stays set ≡ set
struck-stable zero stays set e = refl
struck-stable (suc n) stays set e = rw e (struck-stable n stays set e)

-- after as many rounds as it has members, all that are left stay
struck-stays : (n : ℕ) (stays : List Entry → Entry → Bool) (set : List Entry) → length set ≤ n
    → (e : Entry) → In (struck n stays set) e → stays (struck n stays set) e ≡ true
struck-stays zero stays [] l e h = absurd h
struck-stays zero stays (x ∷ xs) l e h = absurd (omega arith)
struck-stays (suc n) stays set l e h = elim (filter_cases (stays set) set) [
  | inl r ↦ let same = struck-stable (suc n) stays set r.1 in
      subst (λ t. stays t e ≡ true) (sym same) (r.0 e (subst (λ t. In t e) same h))
  | inr s ↦ struck-stays n stays (filter (stays set) set) (omega arith) e h
]

-- a set within it, whose members stay in whatever holds them all, is left
struck-largest : (n : ℕ) (stays : List Entry → Entry → Bool) (set other : List Entry)
    → ((t : List Entry) → ((e : Entry) → In other e → In t e) → (e : Entry) → In other e → stays t e ≡ true)
    → ((e : Entry) → In other e → In set e) → (e : Entry) → In other e → In (struck n stays set) e
struck-largest zero stays set other holds inside e h = inside e h
struck-largest (suc n) stays set other holds inside e h =
    struck-largest n stays (filter (stays set) set) other holds (λ f g. In-filter (stays set) set f (inside f g) (holds set inside f g)) e h

-- of `not a || b`, where a holds
pub implied : (a b : Bool) → (not a || b) ≡ true → a ≡ true → b ≡ true
implied a b h t = rw t at h

pub from_cases : (a b : Bool) → (a ≡ true → b ≡ true) → (not a || b) ≡ true
from_cases true b h = h refl
from_cases false b h = refl

-- of `not a || b || c`, where a holds
pub either : (a b c : Bool) → (not a || b || c) ≡ true → a ≡ true → (b ≡ true) ⊎ (c ≡ true)
either true b c t h = or_cases b c t
either false b c t h = absurd (cc)

pub or_last : (a b : Bool) → b ≡ true → (a || b) ≡ true
or_last true b h = refl
or_last false b h = h

pub length-filter_le : {X : Type 0} → (p : X → Bool) (xs : List X) → length (filter p xs) ≤ length xs
length-filter_le p xs = elim (filter_cases p xs) [ inl r ↦ let e : length (filter p xs) ≡ length xs = ap length r.1 in omega arith | inr s ↦ omega arith ]

module _ (all : List Entry) (block : ℕ) (apart : AreApart all) where
  start : List Entry
  start = filter (in_memory_of block) all

  pub ready-In : (e : Entry) → In (ready all block) e → In all e × (in_memory_of block e ≡ true)
  ready-In e h = filter-In (in_memory_of block) all e (struck-In (length all) (may_stay all) (filter (in_memory_of block) all) e h)

  pub ready-stays : (e : Entry) → In (ready all block) e → may_stay all (ready all block) e ≡ true
  ready-stays e h = struck-stays (length all) (may_stay all) (filter (in_memory_of block) all) (length-filter_le (in_memory_of block) all) e h

  ready-writable : IsWritable all block (ready all block)
  ready-writable = record {
    in_memory = λ e h. let r = ready-In e (In-from_Contains _ e h) in (Contains-from_In all e r.0, r.1);
    whole = λ e f h g same.
        let stays = and_parts _ _ (ready-stays e (In-from_Contains _ e h)) in
        let in_all = In-from_Contains all f g in
        let t = list_all-at (λ f. not (f.class == e.class) || has (ready all block) f) all f stays.0 in_all in
        let u : (f.class == e.class) ≡ true = grind (arith, nat_tests) in
        Contains-from_In _ f (has-In all (ready all block) f apart (λ x k. (ready-In x k).0) in_all (implied _ _ t u));
    met = λ e f h g depends.
        let stays = and_parts _ _ (ready-stays e (In-from_Contains _ e h)) in
        let in_all = In-from_Contains all f g in
        let t = list_all-at (λ f. not (depends_directly e.patch f.patch) || is_durable f || has (ready all block) f) all f stays.1 in_all in
        elim (either (depends_directly e.patch f.patch) (is_durable f) (has (ready all block) f) t depends) [
          | inl u ↦ inl u
          | inr u ↦ inr (Contains-from_In _ f (has-In all (ready all block) f apart (λ x k. (ready-In x k).0) in_all u))
        ];
  }

  stays-writable : (other : List Entry) → IsWritable all block other → (t : List Entry) → ((e : Entry) → In other e → In t e)
      → (e : Entry) → In other e → may_stay all t e ≡ true
  stays-writable other w t inside e h = and_from _ _
      (list_all-from (λ f. not (f.class == e.class) || has t f) all (λ f g. from_cases _ _
      (λ u. let same : f.class ≡ e.class = grind (arith, nat_tests) in
      In-has t f (inside f (In-from_Contains _ f (w.whole e f (Contains-from_In _ e h) (Contains-from_In _ f g) same))))))
      (list_all-from (λ f. not (depends_directly e.patch f.patch) || is_durable f || has t f) all (λ f g.
      elim (cases_Bool (depends_directly e.patch f.patch)) [
        | inl u ↦ elim (w.met e f (Contains-from_In _ e h) (Contains-from_In _ f g) u) [
          | inl d ↦ rw (u, d) refl
          | inr k ↦ let v = In-has t f (inside f (In-from_Contains _ f k)) in or_last _ _ v
        ]
        | inr u ↦ rw u refl
      ]))

  pub ready-largest : IsLargestWritable all block (ready all block)
  ready-largest = record {
    writable = ready-writable;
    largest = λ other w e h. Contains-from_In _ e
        (struck-largest (length all) (may_stay all) (filter (in_memory_of block) all) other (stays-writable other w)
        (λ f g. let r = w.in_memory f (Contains-from_In _ f g) in In-filter (in_memory_of block) all f (In-from_Contains all f r.0) r.1)
        e (In-from_Contains _ e h));
  }
