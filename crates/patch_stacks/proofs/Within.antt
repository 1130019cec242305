-- Where the classes stand that are taken, or in flight.
use Rattle.std.proofs.Common.{◌≡◌, ℕ, ◌+◌, ◌<◌, ◌≤◌, ◌∙◌, true, false, inl, inr, List, [], ◌∷◌, ◌++◌, length, filter, get_or, set, get_or-set_same, get_or-set_other, sym, ap, arith, Bool}
use Rattle.std.specs.Prelude.{nat_lt}
use Rattle.std.specs.List.{remove}
use Rattle.std.proofs.lemmas.Bool.{cases_Bool, cases_eq, cases_lt, both_ways, lt-ltb}
use Rattle.std.proofs.lemmas.List.{length-set, get_or_past, get_or_default, get_or_append_left, get_or_push, length_push}
use Rattle.patch_model.specs.Member.{In-from_Contains, Contains-from_In, filter-In}
use Rattle.patch_stacks.specs.declared.places.Places.{Places}
use Rattle.patch_stacks.specs.Places.{with_places, spread, spread_over}
use Rattle.patch_records.specs.Records.{Class, no_class}
use Rattle.patch_stacks.specs.State.{StandWithin, TakenWithin}
use Rattle.patch_stacks.proofs.ClassPlaces.{stood, at_stood}
use Rattle.patch_stacks.proofs.Moving.{came}
use Rattle.patch_stacks.proofs.Departed.{HaveDeparted}

pub marked_inside : (q : Class → Bool) → q no_class ≡ false → (cs : List Class) (i : ℕ) → q (get_or cs i no_class) ≡ true → i < length cs
marked_inside q none cs i on = elim (cases_lt i (length cs)) [
  | inl w ↦ w
  | inr past ↦ absurd (both_ways _ (ap q (get_or_past cs i no_class past) ∙ none) on)
]

pub none_within : (q : Class → Bool) → q no_class ≡ false → (cs : List Class) (p : Places) → cs ≡ [] → StandWithin q p cs
none_within q none cs p empty i on = let w = marked_inside q none cs i on in let l = ap length empty in absurd (omega (arith, w, l))

-- what was changed has no such class unless there was one
pub spread_within : (q : Class → Bool) → q no_class ≡ false → (old new : List Class) (p : Places) (n : ℕ) → length new ≤ n → StandWithin q p old
    → ((i : ℕ) → i < length new → q (get_or new i no_class) ≡ true → (j : ℕ) × (q (get_or old j no_class) ≡ true))
    → StandWithin q (spread p n) new
spread_within q none old new p n fits t came i on =
    let w = marked_inside q none new i on in
    let j = came i w on in
    let r = t j.0 j.1 in
    let less : nat_lt p.from p.to ≡ true = lt-ltb _ _ (omega (arith, r.0, r.1)) in
    rw less (omega arith, omega arith)

-- with one class more that may be
pub set_within : (q : Class → Bool) → q no_class ≡ false → (cs : List Class) (c : Class) (at : ℕ) (p : Places) → StandWithin q p cs → StandWithin q (with_places p at (at + 1)) (set cs at c)
set_within q none cs c at p t i on = elim (cases_Bool (nat_lt p.from p.to)) [
  | inl some ↦ rw some (elim (cases_eq i at) [
    | inl e ↦ (omega arith, omega arith)
    | inr ne ↦ let r = t i (ap q (sym (get_or-set_other cs at i c no_class ne)) ∙ on) in (omega (arith, r.0), omega (arith, r.1))
  ])
  | inr none ↦ rw none (elim (cases_eq i at) [
    | inl e ↦ (omega arith, omega arith)
    | inr ne ↦ let r = t i (ap q (sym (get_or-set_other cs at i c no_class ne)) ∙ on) in
        absurd (both_ways _ none (lt-ltb p.from p.to (omega (arith, r.0, r.1))))
  ])
]

-- with another class at a place, and such where the one there was
pub kept_within : (q : Class → Bool) → q no_class ≡ false → (cs : List Class) (c : Class) (at : ℕ) (p : Places) → q c ≡ q (get_or cs at no_class) → StandWithin q p cs → StandWithin q p (set cs at c)
kept_within q none cs c at p same t i on = elim (cases_eq i at) [
  | inl e ↦
      let w = marked_inside q none (set cs at c) i on in
      let l = length-set cs at c in
      let here : get_or (set cs at c) i no_class ≡ c = rw e (get_or-set_same cs at c no_class (omega arith)) in
      t i (ap (λ (z : ℕ). q (get_or cs z no_class)) e ∙ sym same ∙ ap q (sym here) ∙ on)
  | inr ne ↦ t i (ap q (sym (get_or-set_other cs at i c no_class ne)) ∙ on)
]

-- with one class more that isn't
pub pushed_within : (q : Class → Bool) → q no_class ≡ false → (cs : List Class) (c : Class) (p : Places) → q c ≡ false → StandWithin q p cs → StandWithin q p (cs ++ c ∷ [])
pushed_within q none cs c p off t i on =
    let w = marked_inside q none (cs ++ c ∷ []) i on in
    let l = length_push cs c in
    elim (cases_lt i (length cs)) [
      | inl before ↦ t i (ap q (sym (get_or_append_left cs (c ∷ []) no_class i before)) ∙ on)
      | inr behind ↦
          let e : length cs ≡ i = omega arith in
          absurd (both_ways _ off (ap q (sym (get_or_push cs c no_class i e)) ∙ on))
    ]

-- a class fewer
pub removed_within : (q : Class → Bool) → q no_class ≡ false → (cs : List Class) (at : ℕ) (p : Places) (n : ℕ) → length (remove cs at) ≤ n → at < length cs → StandWithin q p cs → StandWithin q (spread p n) (remove cs at)
removed_within q none cs at p n fits within t =
    spread_within q none cs (remove cs at) p n fits t (λ i w on. (stood at i, ap q (sym (at_stood cs at i within)) ∙ on))

-- two classes as one
pub settled_within : (q : Class → Bool) → q no_class ≡ false → (cs rest : List Class) (low high : ℕ) (both : Class) (p : Places) (n : ℕ) → rest ≡ remove cs high → high < length cs → length rest ≤ n
    → StandWithin q p cs → StandWithin q (spread_over p n (q both)) (set rest low both)
settled_within q none cs rest low high both p n is within fits t i on =
    let l = length-set rest low both in
    let w = marked_inside q none (set rest low both) i on in
    elim (cases_Bool (q both)) [
      | inl more ↦ rw more (omega arith, omega arith)
      | inr off ↦ rw off (elim (cases_eq i low) [
        | inl e ↦ absurd (both_ways _ off (ap q (sym (get_or-set_same rest low both no_class (omega arith)) ∙ ap (λ (k : ℕ). get_or (set rest low both) k no_class) (sym e)) ∙ on))
        | inr ne ↦
            let same : get_or (set rest low both) i no_class ≡ get_or cs (stood high i) no_class =
            get_or-set_other rest low i both no_class ne ∙ ap (λ ds. get_or ds i no_class) is ∙ at_stood cs high i within in
            let r = t (stood high i) (ap q (sym same) ∙ on) in
            let less : nat_lt p.from p.to ≡ true = lt-ltb _ _ (omega (arith, r.0, r.1)) in
            rw less (omega arith, omega arith)
      ])
    ]

-- those that pass a test
pub filtered_within : (q : Class → Bool) → q no_class ≡ false → (keeps : Class → Bool) (cs : List Class) (p : Places) (n : ℕ) → length (filter keeps cs) ≤ n → StandWithin q p cs → StandWithin q (spread p n) (filter keeps cs)
filtered_within q none keeps cs p n fits t =
    spread_within q none cs (filter keeps cs) p n fits t (λ i w on.
    let k = filter-In keeps cs (get_or (filter keeps cs) i no_class) (In-from_Contains (filter keeps cs) (get_or (filter keeps cs) i no_class) (i, w, get_or_default (filter keeps cs) i _ no_class w)) in
    let j = Contains-from_In cs (get_or (filter keeps cs) i no_class) k.0 in
    (j.0, ap q (get_or_default cs j.0 no_class (get_or (filter keeps cs) i no_class) j.1 ∙ j.2) ∙ on))

-- classes in flight
pub departed_within : (numbers : List ℕ) (first now : List Class) (k : ℕ) (p : Places) → HaveDeparted numbers first now k → TakenWithin p first → TakenWithin p now
departed_within numbers first now k p d t i on = t i (elim (d.each i) [
  | inl e ↦ ap (λ (c : Class). c.taken) (sym e) ∙ on
  | inr e ↦ ap (λ (c : Class). c.taken) (sym e.1) ∙ on
])

-- all of them
pub all_within : (q : Class → Bool) → q no_class ≡ false → (cs : List Class) (p : Places) (n : ℕ) → length cs ≤ n → StandWithin q (spread_over p n true) cs
all_within q none cs p n fits i on = let w = marked_inside q none cs i on in (omega arith, omega arith)
