-- Classes of which no two have a common member.
use Rattle.std.proofs.Common.{◌≡◌, ◌≢◌, ℕ, zero, suc, ◌+◌, min, max, ◌<◌, ◌≤◌, ◌⊎◌, ◌∙◌, true, false, inl, inr, List, [], ◌∷◌, ◌++◌, length, filter, get_or, set, get_or-set_same, get_or-set_other, refl, sym, ap, arith, subst, Bool, Option, Some, None}
use Rattle.std.specs.Prelude.{is_some, ◌==◌, ◌&&◌, ◌||◌, nat_lt, if◌then◌else◌}
use Rattle.std.specs.List.{insert, remove}
use Rattle.std.proofs.lemmas.Bool.{cases_Bool, cases_eq, cases_lt, cases_order, both_ways, and_parts, or_cases, eqb-true, ltb-true, false_from_ne_true}
use Rattle.std.proofs.lemmas.List.{length-set, get_or_past, get_or_default, get_or_append_left, get_or_push, length_push}
use Rattle.std.proofs.lemmas.List.Edits.{length-remove, get_or-remove_below}
use Rattle.std.proofs.lemmas.List.Quantifiers.{position-Some}
use Rattle.patch_model.specs.Entry.{is_among}
use Rattle.patch_stacks.specs.declared.members.Members.{Members}
use Rattle.patch_stacks.specs.Members.{with_member, in_disorder, joined, are_below, is_next}
use Rattle.patch_records.specs.Records.{Class, no_class}
use Rattle.patch_stacks.specs.State.{Block, class_at, place_of, AreApart, AreNamesBelow, AreRising, KnownApart, IsOnlyNamed}
use Rattle.patch_records.specs.Merged.{IsUnion}
use Rattle.patch_stacks.proofs.ClassPlaces.{position-None}
use Rattle.patch_stacks.proofs.ClassPlaces.{stood, stood_is, at_stood}
use Rattle.patch_stacks.proofs.Moving.{came, came_is, at_came}
use Rattle.patch_stacks.proofs.Departed.{HaveDeparted}

-- each member came from some class, and none of those went to two
kept_apart : (old new : List Class) (newest : ℕ) (From : ℕ → ℕ → Type 0)
    → ((i n : ℕ) → is_among (get_or new i no_class).members n ≡ true → (k : ℕ) × From i k × (is_among (get_or old k no_class).members n ≡ true))
    → ((i j k : ℕ) → From i k → From j k → i ≡ j)
    → AreApart newest old → AreApart newest new
kept_apart old new newest From came_from one a = record {
  upto = λ i n on. let k = came_from i n on in a.upto k.0 n k.2;
  once = λ i j n on also.
      let k = came_from i n on in
      let m = came_from j n also in
      one i j m.0 (subst (λ (z : ℕ). From i z) (a.once k.0 m.0 n k.2 m.2) k.1) m.1;
}

pub the_one : (number n : ℕ) → is_among (number ∷ []) n ≡ true → number ≡ n
the_one number n t = elim (or_cases (number == n) false t) [ inl e ↦ eqb-true _ _ e | inr e ↦ absurd (cc) ]

none_among : (cs : List Class) (i n : ℕ) → length cs ≤ i → is_among (get_or cs i no_class).members n ≡ false
none_among cs i n past = ap (λ c. is_among c.members n) (get_or_past cs i no_class past)

pub member_inside : (cs : List Class) (i n : ℕ) → is_among (get_or cs i no_class).members n ≡ true → i < length cs
member_inside cs i n on = elim (cases_lt i (length cs)) [
  | inl w ↦ w
  | inr past ↦ absurd (both_ways _ (none_among cs i n past) on)
]

pub none_apart : (cs : List Class) (m : Members) → cs ≡ [] → KnownApart m cs
none_apart cs m empty = let l = ap length empty in (
  (λ known. record {
    upto = λ i n on. let w = member_inside cs i n on in absurd (omega (arith, w, l));
    once = λ i j n on also. let w = member_inside cs i n on in absurd (omega (arith, w, l));
  }),
  (λ i n on less. let w = member_inside cs i n on in absurd (omega (arith, w, l))),
  (λ known. record {
    upto = λ i w. absurd (omega (arith, w, l));
    rising = λ i j less w. absurd (omega (arith, w, l));
  }),
)

-- each class has the members and the name of one that there was
kept_names : (limit : ℕ) (old new : List Class) (f : ℕ → ℕ)
    → ((i : ℕ) → i < length new → (get_or new i no_class).members ≡ (get_or old (f i) no_class).members)
    → ((i : ℕ) → i < length new → (get_or new i no_class).name ≡ (get_or old (f i) no_class).name) → AreNamesBelow limit old → AreNamesBelow limit new
kept_names limit old new f same called s i n on less =
    let w = member_inside new i n on in
    called i w ∙ s (f i) n (ap (λ ms. is_among ms n) (sym (same i w)) ∙ on) less

-- each class has the name of one that there was, in the same order
kept_rising : (newest : ℕ) (old new : List Class) (f : ℕ → ℕ) → ((i : ℕ) → i < length new → f i < length old)
    → ((i : ℕ) → i < length new → (get_or new i no_class).name ≡ (get_or old (f i) no_class).name)
    → ((i j : ℕ) → i < j → j < length new → f i < f j) → AreRising newest old → AreRising newest new
kept_rising newest old new f within called order s = record {
  upto = λ i w. let e = called i w in let l = s.upto (f i) (within i w) in omega (arith, e, l);
  rising = λ i j less w.
      let c_i = called i (omega arith) in
      let c_j = called j w in
      let up = s.rising (f i) (f j) (order i j less w) (within j w) in
      omega (arith, c_i, c_j, up);
}

-- each class came from a place of its own, or has the members of the one there
places_apart : (old new : List Class) (newest : ℕ) (f : ℕ → ℕ)
    → ((i : ℕ) → i < length new → (get_or new i no_class).members ≡ (get_or old (f i) no_class).members)
    → ((i j : ℕ) → f i ≡ f j → i ≡ j) → AreApart newest old → AreApart newest new
places_apart old new newest f same one a = kept_apart old new newest (λ i k. k ≡ f i)
    (λ i n on. (f i, refl, ap (λ ms. is_among ms n) (sym (same i (member_inside new i n on))) ∙ on))
    (λ i j k e d. one i j (sym e ∙ d)) a

-- the same members and the same name at each place
pub same_apart : (old new : List Class) (m : Members) → length new ≤ length old
    → ((i : ℕ) → i < length new → (get_or new i no_class).members ≡ (get_or old i no_class).members)
    → ((i : ℕ) → i < length new → (get_or new i no_class).name ≡ (get_or old i no_class).name) → KnownApart m old → KnownApart m new
same_apart old new m long same called a = (
  (λ known. places_apart old new m.newest (λ i. i) same (λ i j e. e) (a.0 known)),
  kept_names m.others_from old new (λ i. i) same called a.1,
  (λ known. kept_rising m.newest old new (λ i. i) (λ i w. omega arith) called (λ i j less w. less) (a.2 known)),
)

pub set_apart : (cs : List Class) (c : Class) (at : ℕ) (m : Members) → c.members ≡ (get_or cs at no_class).members → c.name ≡ (get_or cs at no_class).name
    → KnownApart m cs → KnownApart m (set cs at c)
set_apart cs c at m is called a =
    let l = length-set cs at c in
    same_apart cs (set cs at c) m (omega arith) (λ i w. elim (cases_eq i at) [
      | inl e ↦ rw e (ap (λ d. d.members) (get_or-set_same cs at c no_class (omega arith)) ∙ is)
      | inr ne ↦ ap (λ d. d.members) (get_or-set_other cs at i c no_class ne)
    ]) (λ i w. elim (cases_eq i at) [
      | inl e ↦ rw e (ap (λ d. d.name) (get_or-set_same cs at c no_class (omega arith)) ∙ called)
      | inr ne ↦ ap (λ d. d.name) (get_or-set_other cs at i c no_class ne)
    ]) a

pub departed_apart : (numbers : List ℕ) (first now : List Class) (k : ℕ) (m : Members) → HaveDeparted numbers first now k → KnownApart m first → KnownApart m now
departed_apart numbers first now k m d a = let l = d.long in same_apart first now m (omega arith) (λ i w. elim (d.each i) [
  | inl e ↦ ap (λ c. c.members) e
  | inr e ↦ ap (λ c. c.members) e.1
]) (λ i w. elim (d.each i) [
  | inl e ↦ ap (λ c. c.name) e
  | inr e ↦ ap (λ c. c.name) e.1
]) a

pub stood_less : (at i j : ℕ) → i < j → stood at i < stood at j
stood_less at i j less = elim (stood_is at i) [
  | inl s ↦ elim (stood_is at j) [ inl t ↦ omega arith | inr t ↦ omega arith ]
  | inr s ↦ elim (stood_is at j) [ inl t ↦ omega arith | inr t ↦ omega arith ]
]

stood_once : (at i j : ℕ) → stood at i ≡ stood at j → i ≡ j
stood_once at i j e = elim (stood_is at i) [
  | inl s ↦ elim (stood_is at j) [ inl t ↦ omega arith | inr t ↦ omega arith ]
  | inr s ↦ elim (stood_is at j) [ inl t ↦ omega arith | inr t ↦ omega arith ]
]

pub removed_apart : (cs : List Class) (at : ℕ) (m : Members) → at < length cs → KnownApart m cs → KnownApart m (remove cs at)
removed_apart cs at m within a = let l = length-remove cs at within in (
  (λ known. places_apart cs (remove cs at) m.newest (stood at) (λ i w. ap (λ c. c.members) (at_stood cs at i within)) (stood_once at) (a.0 known)),
  kept_names m.others_from cs (remove cs at) (stood at) (λ i w. ap (λ c. c.members) (at_stood cs at i within)) (λ i w. ap (λ c. c.name) (at_stood cs at i within)) a.1,
  (λ known. kept_rising m.newest cs (remove cs at) (stood at) (λ i w. elim (stood_is at i) [ inl s ↦ omega arith | inr s ↦ omega arith ])
      (λ i w. ap (λ c. c.name) (at_stood cs at i within)) (λ i j less w. stood_less at i j less) (a.2 known)),
)

came_once : (front k i j : ℕ) → front ≤ k → came front k i ≡ came front k j → i ≡ j
came_once front k i j down e = elim (came_is front k i) [
  | inl s ↦ elim (came_is front k j) [ inl t ↦ omega arith | inr o ↦ elim o [ inl t ↦ omega arith | inr o ↦ elim o [ inl t ↦ omega arith | inr t ↦ omega arith ] ] ]
  | inr p ↦ elim p [
    | inl s ↦ elim (came_is front k j) [ inl t ↦ omega arith | inr o ↦ elim o [ inl t ↦ omega arith | inr o ↦ elim o [ inl t ↦ omega arith | inr t ↦ omega arith ] ] ]
    | inr p ↦ elim p [
      | inl s ↦ elim (came_is front k j) [ inl t ↦ omega arith | inr o ↦ elim o [ inl t ↦ omega arith | inr o ↦ elim o [ inl t ↦ omega arith | inr t ↦ omega arith ] ] ]
      | inr s ↦ elim (came_is front k j) [ inl t ↦ omega arith | inr o ↦ elim o [ inl t ↦ omega arith | inr o ↦ elim o [ inl t ↦ omega arith | inr t ↦ omega arith ] ] ]
    ]
  ]
]

pub moved_apart : (cs : List Class) (front k : ℕ) (m : Members) → front ≤ k → k < length cs → KnownApart m cs
    → KnownApart (in_disorder m) (insert (remove cs k) front (get_or cs k no_class))
moved_apart cs front k m down within a =
    let b : Block = record { bytes = []; classes = cs } in (
      (λ known. places_apart cs (insert (remove cs k) front (get_or cs k no_class)) m.newest (came front k) (λ i w. ap (λ c. c.members) (at_came b front k i down within))
          (λ i j. came_once front k i j down) (a.0 known)),
      kept_names m.others_from cs (insert (remove cs k) front (get_or cs k no_class)) (came front k)
          (λ i w. ap (λ c. c.members) (at_came b front k i down within)) (λ i w. ap (λ c. c.name) (at_came b front k i down within)) a.1,
      (λ known. absurd (cc)),
    )

-- where the element at a place of a filtered list stood
abbrev pub stayed : (Class → Bool) → List Class → ℕ → ℕ
stayed q [] i = i
stayed q (c ∷ cs) zero = if q c then 0 else suc (stayed q cs zero)
stayed q (c ∷ cs) (suc i) = if q c then suc (stayed q cs i) else suc (stayed q cs (suc i))

pub stayed_at : (q : Class → Bool) (cs : List Class) (i : ℕ) → get_or (filter q cs) i no_class ≡ get_or cs (stayed q cs i) no_class
stayed_at q [] i = refl
stayed_at q (c ∷ cs) zero = elim (cases_Bool (q c)) [ inl t ↦ rw t refl | inr f ↦ rw f (stayed_at q cs zero) ]
stayed_at q (c ∷ cs) (suc i) = elim (cases_Bool (q c)) [ inl t ↦ rw t (stayed_at q cs i) | inr f ↦ rw f (stayed_at q cs (suc i)) ]

pub stayed_less : (q : Class → Bool) (cs : List Class) (i j : ℕ) → i < j → stayed q cs i < stayed q cs j
stayed_less q [] i j less = less
stayed_less q (c ∷ cs) i zero less = absurd (omega arith)
stayed_less q (c ∷ cs) zero (suc j) less = elim (cases_Bool (q c)) [
  | inl t ↦ rw t (omega arith)
  | inr f ↦ let l = stayed_less q cs zero (suc j) less in rw f (omega arith)
]
stayed_less q (c ∷ cs) (suc i) (suc j) less = elim (cases_Bool (q c)) [
  | inl t ↦ let l = stayed_less q cs i j (omega arith) in rw t (omega arith)
  | inr f ↦ let l = stayed_less q cs (suc i) (suc j) less in rw f (omega arith)
]

pub stayed_within : (q : Class → Bool) (cs : List Class) (i : ℕ) → i < length (filter q cs) → stayed q cs i < length cs
stayed_within q [] i w = absurd (omega arith)
stayed_within q (c ∷ cs) zero w = elim (cases_Bool (q c)) [
  | inl t ↦ rw t (omega arith)
  | inr f ↦ let v = rw f at w in let l = stayed_within q cs zero v in rw f (omega arith)
]
stayed_within q (c ∷ cs) (suc i) w = elim (cases_Bool (q c)) [
  | inl t ↦ let v = rw t at w in let l = stayed_within q cs i (omega arith) in rw t (omega arith)
  | inr f ↦ let v = rw f at w in let l = stayed_within q cs (suc i) v in rw f (omega arith)
]

stayed_once : (q : Class → Bool) (cs : List Class) (i j : ℕ) → stayed q cs i ≡ stayed q cs j → i ≡ j
stayed_once q cs i j e = elim (cases_order i j) [
  | inl same ↦ same
  | inr o ↦ elim o [
    | inl less ↦ let l = stayed_less q cs i j less in absurd (omega arith)
    | inr more ↦ let l = stayed_less q cs j i more in absurd (omega arith)
  ]
]

pub filtered_apart : (q : Class → Bool) (cs : List Class) (m : Members) → KnownApart m cs → KnownApart m (filter q cs)
filtered_apart q cs m a = (
  (λ known. places_apart cs (filter q cs) m.newest (stayed q cs) (λ i w. ap (λ c. c.members) (stayed_at q cs i)) (stayed_once q cs) (a.0 known)),
  kept_names m.others_from cs (filter q cs) (stayed q cs) (λ i w. ap (λ c. c.members) (stayed_at q cs i)) (λ i w. ap (λ c. c.name) (stayed_at q cs i)) a.1,
  (λ known. kept_rising m.newest cs (filter q cs) (stayed q cs) (λ i w. stayed_within q cs i w) (λ i w. ap (λ c. c.name) (stayed_at q cs i))
      (λ i j less w. stayed_less q cs i j less) (a.2 known)),
)

pushed_member : (cs : List Class) (c : Class) (number i n : ℕ) → c.members ≡ number ∷ [] → is_among (get_or (cs ++ c ∷ []) i no_class).members n ≡ true
    → (is_among (get_or cs i no_class).members n ≡ true) ⊎ ((i ≡ length cs) × (n ≡ number))
pushed_member cs c number i n is on =
    let w = member_inside (cs ++ c ∷ []) i n on in
    let l = length_push cs c in
    elim (cases_lt i (length cs)) [
      | inl before ↦ inl (ap (λ d. is_among d.members n) (sym (get_or_append_left cs (c ∷ []) no_class i before)) ∙ on)
      | inr behind ↦
          let e : length cs ≡ i = omega arith in
          let among : is_among (number ∷ []) n ≡ true = ap (λ ms. is_among ms n) (sym is) ∙ ap (λ d. is_among d.members n) (sym (get_or_push cs c no_class i e)) ∙ on in
          inr (sym e, elim (or_cases (number == n) false among) [ inl q ↦ sym (eqb-true _ _ q) | inr q ↦ absurd (cc) ])
    ]

pushed_apart : (cs : List Class) (c : Class) (number : ℕ) → c.members ≡ number ∷ []
    → ((i n : ℕ) → is_among (get_or cs i no_class).members n ≡ true → n < number)
    → ((i j n : ℕ) → is_among (get_or cs i no_class).members n ≡ true → is_among (get_or cs j no_class).members n ≡ true → i ≡ j)
    → AreApart number (cs ++ c ∷ [])
pushed_apart cs c number is low one = record {
  upto = λ i n on. elim (pushed_member cs c number i n is on) [
    | inl old ↦ let l = low i n old in omega arith
    | inr new ↦ let e : n ≡ number = new.1 in omega arith
  ];
  once = λ i j n on also. elim (pushed_member cs c number i n is on) [
    | inl old ↦ elim (pushed_member cs c number j n is also) [
      | inl older ↦ one i j n old older
      | inr new ↦ let l = low i n old in let e : n ≡ number = new.1 in absurd (omega arith)
    ]
    | inr new ↦ elim (pushed_member cs c number j n is also) [
      | inl old ↦ let l = low j n old in let e : n ≡ number = new.1 in absurd (omega arith)
      | inr newer ↦ new.0 ∙ sym newer.0
    ]
  ];
}

one_apart : (cs : List Class) (c : Class) (m : Members) (number : ℕ) (only : Bool) → c.members ≡ number ∷ [] → only ≡ (length cs == 0) → KnownApart m cs
    → is_next m number only ≡ true → AreApart number (cs ++ c ∷ [])
one_apart cs c m number only is first a known = elim (or_cases only (m.are_apart && nat_lt m.newest number) known) [
  | inl t ↦
      let none : length cs ≡ 0 = eqb-true _ _ (sym first ∙ t) in
      pushed_apart cs c number is (λ i n on. let w = member_inside cs i n on in absurd (omega arith)) (λ i j n on also. let w = member_inside cs i n on in absurd (omega arith))
  | inr t ↦
      let p = and_parts m.are_apart (nat_lt m.newest number) t in
      let r = a.0 p.0 in
      let up : m.newest < number = ltb-true _ _ p.1 in
      pushed_apart cs c number is (λ i n on. let l = r.upto i n on in omega arith) r.once
]

pushed_names : (limit : ℕ) (cs : List Class) (c : Class) (number : ℕ) → c.members ≡ number ∷ [] → c.name ≡ number
    → ((i n : ℕ) → is_among (get_or cs i no_class).members n ≡ true → n < limit → (get_or cs i no_class).name ≡ n) → AreNamesBelow limit (cs ++ c ∷ [])
pushed_names limit cs c number is called s i n on less = let l = length_push cs c in let w = member_inside (cs ++ c ∷ []) i n on in elim (cases_lt i (length cs)) [
  | inl before ↦
      let e = get_or_append_left cs (c ∷ []) no_class i before in
      ap (λ d. d.name) e ∙ s i n (ap (λ d. is_among d.members n) (sym e) ∙ on) less
  | inr behind ↦
      let e = get_or_push cs c no_class i (omega arith) in
      ap (λ d. d.name) e ∙ called ∙ the_one number n (ap (λ ms. is_among ms n) (sym (ap (λ d. d.members) e ∙ is)) ∙ on)
]

pushed_rising : (cs : List Class) (c : Class) (number : ℕ) → c.name ≡ number → ((i : ℕ) → i < length cs → (get_or cs i no_class).name < number)
    → ((i j : ℕ) → i < j → j < length cs → (get_or cs i no_class).name < (get_or cs j no_class).name) → AreRising number (cs ++ c ∷ [])
pushed_rising cs c number called low up_to = let l = length_push cs c in record {
  upto = λ i w. elim (cases_lt i (length cs)) [
    | inl before ↦ let e = ap (λ d. d.name) (get_or_append_left cs (c ∷ []) no_class i before) in let less = low i before in omega (arith, e, less)
    | inr behind ↦ let e = ap (λ d. d.name) (get_or_push cs c no_class i (omega arith)) in omega (arith, e, called)
  ];
  rising = λ i j less w.
      let w_i : i < length cs = omega arith in
      let e = ap (λ d. d.name) (get_or_append_left cs (c ∷ []) no_class i w_i) in
      elim (cases_lt j (length cs)) [
        | inl before ↦
            let f = ap (λ d. d.name) (get_or_append_left cs (c ∷ []) no_class j before) in
            let up = up_to i j less before in
            omega (arith, e, f, up)
        | inr behind ↦
            let f = ap (λ d. d.name) (get_or_push cs c no_class j (omega arith)) in
            let up = low i w_i in
            omega (arith, e, f, called, up)
      ];
}

one_more_name : (cs : List Class) (c : Class) (m : Members) (number : ℕ) (only : Bool) → c.members ≡ number ∷ [] → c.name ≡ number → only ≡ (length cs == 0) → KnownApart m cs
    → AreNamesBelow (if only then 4294967295 else m.others_from) (cs ++ c ∷ [])
one_more_name cs c m number only is called first a = elim (cases_Bool only) [
  | inl t ↦
      let none : length cs ≡ 0 = eqb-true _ _ (sym first ∙ t) in
      rw t (pushed_names 4294967295 cs c number is called (λ i n on less. let w = member_inside cs i n on in absurd (omega (arith, w, none))))
  | inr f ↦ rw f (pushed_names m.others_from cs c number is called a.1)
]

one_rising : (cs : List Class) (c : Class) (m : Members) (number : ℕ) (only : Bool) → c.name ≡ number → only ≡ (length cs == 0) → KnownApart m cs
    → (is_next m number only && (only || m.are_rising)) ≡ true → AreRising number (cs ++ c ∷ [])
one_rising cs c m number only called first a known =
    let k = and_parts (is_next m number only) (only || m.are_rising) known in
    elim (cases_Bool only) [
      | inl t ↦
          let none : length cs ≡ 0 = eqb-true _ _ (sym first ∙ t) in
          pushed_rising cs c number called (λ i w. absurd (omega arith)) (λ i j less w. absurd (omega arith))
      | inr f ↦
          let s = a.2 (ap (λ z. z || m.are_rising) (sym f) ∙ k.1) in
          let p = and_parts m.are_apart (nat_lt m.newest number) (ap (λ z. z || (m.are_apart && nat_lt m.newest number)) (sym f) ∙ k.0) in
          let up : m.newest < number = ltb-true _ _ p.1 in
          pushed_rising cs c number called (λ i w. let l = s.upto i w in omega arith) s.rising
    ]

-- a class more
pub laid_apart : (cs : List Class) (c : Class) (m : Members) (number : ℕ) (only : Bool) → c.members ≡ number ∷ [] → c.name ≡ number → only ≡ (length cs == 0) → KnownApart m cs
    → KnownApart (with_member m number only) (cs ++ c ∷ [])
laid_apart cs c m number only is called first a = (
  (λ known. one_apart cs c m number only is first a known),
  one_more_name cs c m number only is called first a,
  (λ known. one_rising cs c m number only called first a known),
)

-- what came from neither of the two places
neither : (low high j k : ℕ) → low < high → j ≢ low → k ≡ stood high j → (k ≡ low) ⊎ (k ≡ high) → ⊥
neither low high j k less ne is or_ = elim (stood_is high j) [
  | inl s ↦ elim or_ [ inl e ↦ absurd (ne (omega arith)) | inr e ↦ absurd (omega arith) ]
  | inr s ↦ elim or_ [ inl e ↦ absurd (omega arith) | inr e ↦ absurd (omega arith) ]
]

-- where a member came from when two classes became one
abbrev FromBoth : ℕ → ℕ → ℕ → ℕ → Type 0
FromBoth low high i k = ((i ≡ low) × ((k ≡ low) ⊎ (k ≡ high))) ⊎ ((i ≢ low) × (k ≡ stood high i))

from_once : (low high i j k : ℕ) → low < high → FromBoth low high i k → FromBoth low high j k → i ≡ j
from_once low high i j k less (inl f) (inl g) = f.0 ∙ sym g.0
from_once low high i j k less (inl f) (inr g) = absurd (neither low high j k less g.0 g.1 f.1)
from_once low high i j k less (inr f) (inl g) = absurd (neither low high i k less f.0 f.1 g.1)
from_once low high i j k less (inr f) (inr g) = stood_once high i j (sym f.1 ∙ g.1)

-- the two places of classes that become one, of which the higher one's was taken out of the list
pub record AreTaken (cs rest : List Class) (low high : ℕ) (lower upper : Class) : Type 0 where
  pub less : low < high
  pub within : high < length cs
  pub upper_is : upper ≡ get_or cs high no_class
  pub lower_is : lower ≡ get_or cs low no_class
  pub rest_is : rest ≡ remove cs high

pub are_taken : (cs rest : List Class) (low high : ℕ) (lower upper : Class) → low < high → high < length cs
    → upper ≡ get_or cs high upper → rest ≡ remove cs high → lower ≡ get_or rest low lower → AreTaken cs rest low high lower upper
are_taken cs rest low high lower upper less within upper_is rest_is lower_is = record {
  less = less;
  within = within;
  upper_is = upper_is ∙ get_or_default cs high upper no_class within;
  lower_is = let w_low : low < length cs = omega arith in lower_is ∙ ap (λ ds. get_or ds low lower) rest_is
      ∙ get_or-remove_below cs high lower low less within ∙ get_or_default cs low lower no_class w_low;
  rest_is = rest_is;
}

both-here : (cs rest : List Class) (low high i : ℕ) (lower upper both : Class) → AreTaken cs rest low high lower upper → i ≡ low
    → get_or (set rest low both) i no_class ≡ both
both-here cs rest low high i lower upper both t e =
    let long : length rest + 1 ≡ length cs = ap (λ ds. length ds + 1) t.rest_is ∙ length-remove cs high t.within in
    ap (λ (z : ℕ). get_or (set rest low both) z no_class) e ∙ get_or-set_same rest low both no_class (omega (arith, long, t.less, t.within))

both-there : (cs rest : List Class) (low high i : ℕ) (lower upper both : Class) → AreTaken cs rest low high lower upper → i ≢ low
    → get_or (set rest low both) i no_class ≡ get_or cs (stood high i) no_class
both-there cs rest low high i lower upper both t ne =
    get_or-set_other rest low i both no_class ne ∙ ap (λ ds. get_or ds i no_class) t.rest_is ∙ at_stood cs high i t.within

both-inside : (cs rest : List Class) (low high i : ℕ) (lower upper both : Class) → AreTaken cs rest low high lower upper
    → i < length (set rest low both) → stood high i < length cs
both-inside cs rest low high i lower upper both t w =
    let long : length rest + 1 ≡ length cs = ap (λ ds. length ds + 1) t.rest_is ∙ length-remove cs high t.within in
    let s = length-set rest low both in
    elim (stood_is high i) [ inl o ↦ omega (arith, t.within) | inr o ↦ omega arith ]

-- two classes as one
both_apart : (newest : ℕ) (cs rest : List Class) (low high : ℕ) (lower upper both : Class) → AreTaken cs rest low high lower upper
    → ((n : ℕ) → is_among both.members n ≡ true → (is_among lower.members n || is_among upper.members n) ≡ true) → AreApart newest cs → AreApart newest (set rest low both)
both_apart newest cs rest low high lower upper both t is_of a =
    kept_apart cs (set rest low both) newest (FromBoth low high) (λ i n on. elim (cases_eq i low) [
      | inl e ↦
          let here : is_among both.members n ≡ true = ap (λ c. is_among c.members n) (sym (both-here cs rest low high i lower upper both t e)) ∙ on in
          elim (or_cases (is_among lower.members n) (is_among upper.members n) (is_of n here)) [
            | inl o ↦ (low, inl (e, inl refl), ap (λ c. is_among c.members n) (sym t.lower_is) ∙ o)
            | inr o ↦ (high, inl (e, inr refl), ap (λ c. is_among c.members n) (sym t.upper_is) ∙ o)
          ]
      | inr ne ↦ (stood high i, inr (ne, refl), ap (λ c. is_among c.members n) (sym (both-there cs rest low high i lower upper both t ne)) ∙ on)
    ]) (λ i j k f g. from_once low high i j k t.less f g) a

-- the names, where that of both is the lesser of the two
both_rising : (newest : ℕ) (cs rest : List Class) (low high : ℕ) (lower upper both : Class) → AreTaken cs rest low high lower upper
    → both.name ≡ min lower.name upper.name → AreRising newest cs → AreRising newest (set rest low both)
both_rising newest cs rest low high lower upper both t named s = record {
  upto = λ i w. elim (cases_eq i low) [
    | inl e ↦ let h = here i e in let l = s.upto low (omega (arith, t.less, t.within)) in omega (arith, h, l, named, low_is)
    | inr ne ↦ let o = there i ne in let l = s.upto (stood high i) (inside i w) in omega (arith, o, l)
  ];
  rising = λ i j first w. elim (cases_eq i low) [
    | inl e ↦
        let ne : j ≢ low = (λ z. absurd (omega arith)) in
        let past : low < stood high j = elim (stood_is high j) [ inl o ↦ omega arith | inr o ↦ omega arith ] in
        let h = here i e in
        let o = there j ne in
        let up = s.rising low (stood high j) past (inside j w) in
        omega (arith, h, o, up, named, low_is)
    | inr ne ↦
        let o = there i ne in
        elim (cases_eq j low) [
          | inl e ↦
              let same : stood high i ≡ i = elim (stood_is high i) [ inl z ↦ z.1 | inr z ↦ omega (arith, t.less) ] in
              let h = here j e in
              let up = s.rising (stood high i) low (omega (arith, same, first, e)) (omega (arith, t.less, t.within)) in
              let also = s.rising (stood high i) high (omega (arith, same, first, e, t.less)) t.within in
              omega (arith, h, o, up, also, named, low_is, high_is)
          | inr nf ↦
              let p = there j nf in
              let up = s.rising (stood high i) (stood high j) (stood_less high i j first) (inside j w) in
              omega (arith, o, p, up)
        ]
  ];
}
  where
    low_is : lower.name ≡ (get_or cs low no_class).name
    low_is = ap (λ (c : Class). c.name) t.lower_is

    high_is : upper.name ≡ (get_or cs high no_class).name
    high_is = ap (λ (c : Class). c.name) t.upper_is

    here : (i : ℕ) → i ≡ low → (get_or (set rest low both) i no_class).name ≡ both.name
    here i e = ap (λ (c : Class). c.name) (both-here cs rest low high i lower upper both t e)

    there : (i : ℕ) → i ≢ low → (get_or (set rest low both) i no_class).name ≡ (get_or cs (stood high i) no_class).name
    there i ne = ap (λ (c : Class). c.name) (both-there cs rest low high i lower upper both t ne)

    inside : (i : ℕ) → i < length (set rest low both) → stood high i < length cs
    inside i w = both-inside cs rest low high i lower upper both t w

-- the members below the greater of the two names
both_named : (limit : ℕ) (cs rest : List Class) (low high : ℕ) (lower upper both : Class) → AreTaken cs rest low high lower upper
    → ((n : ℕ) → is_among both.members n ≡ true → (is_among lower.members n || is_among upper.members n) ≡ true)
    → both.name ≡ min lower.name upper.name → AreNamesBelow limit cs → AreNamesBelow (min limit (max lower.name upper.name)) (set rest low both)
both_named limit cs rest low high lower upper both t is_of named s i n on less = elim (cases_eq i low) [
  | inl e ↦
      let h = both-here cs rest low high i lower upper both t e in
      let here : is_among both.members n ≡ true = ap (λ c. is_among c.members n) (sym h) ∙ on in
      let called = ap (λ (c : Class). c.name) h in
      elim (or_cases (is_among lower.members n) (is_among upper.members n) (is_of n here)) [
        | inl o ↦
            let own = ap (λ (c : Class). c.name) t.lower_is ∙ s low n (ap (λ c. is_among c.members n) (sym t.lower_is) ∙ o) (omega arith) in
            omega (arith, called, named, own, less)
        | inr o ↦
            let own = ap (λ (c : Class). c.name) t.upper_is ∙ s high n (ap (λ c. is_among c.members n) (sym t.upper_is) ∙ o) (omega arith) in
            omega (arith, called, named, own, less)
      ]
  | inr ne ↦
      let o = both-there cs rest low high i lower upper both t ne in
      ap (λ (c : Class). c.name) o ∙ s (stood high i) n (ap (λ c. is_among c.members n) (sym o) ∙ on) (omega arith)
]

pub settled_apart : (cs rest : List Class) (low high : ℕ) (lower upper both : Class) (m : Members) (of : Bool) → AreTaken cs rest low high lower upper
    → (of ≡ true → IsUnion both lower upper) → KnownApart m cs → KnownApart (joined m of (max lower.name upper.name)) (set rest low both)
settled_apart cs rest low high lower upper both m of t union a = (
  (λ known.
      let p = and_parts m.are_apart of known in
      both_apart m.newest cs rest low high lower upper both t (union p.1).members (a.0 p.0)),
  elim (cases_Bool of) [
    | inl o ↦ rw o (both_named m.others_from cs rest low high lower upper both t (union o).members (union o).named a.1)
    | inr f ↦ rw f (λ i n on less. absurd (omega arith))
  ],
  (λ known.
      let p = and_parts m.are_rising of known in
      both_rising m.newest cs rest low high lower upper both t (union p.1).named (a.2 p.0)),
)

some_or_none : (o : Option ℕ) → ((i : ℕ) × (o ≡ Some i)) ⊎ (o ≡ None)
some_or_none None = inr refl
some_or_none (Some i) = inl (i, refl)

-- what has the number is the only one
pub found_apart : (b : Block) (m : Members) (at number : ℕ) → KnownApart m b.classes → m.are_apart ≡ true → is_among (class_at b at).members number ≡ true
    → place_of b number ≡ Some at
found_apart b m at number a known on = elim (some_or_none (place_of b number)) [
  | inl o ↦
      let p = position-Some (λ c. is_among c.members number) b.classes o.0 no_class o.1 in
      o.1 ∙ ap Some ((a.0 known).once o.0 at number p.1 on)
  | inr o ↦ absurd (both_ways _ (position-None (λ c. is_among c.members number) b.classes at no_class o (member_inside b.classes at number on)) on)
]

-- no record has a number that isn't found
pub none_has : (b : Block) (number : ℕ) → place_of b number ≡ None → (i : ℕ) → is_among (class_at b i).members number ≡ false
none_has b number none i = elim (cases_lt i (length b.classes)) [
  | inl w ↦ position-None (λ c. is_among c.members number) b.classes i no_class none w
  | inr past ↦ none_among b.classes i number past
]

pub none_above : (b : Block) (m : Members) (number : ℕ) → KnownApart m b.classes → are_below m number ≡ true → (i : ℕ) → is_among (class_at b i).members number ≡ false
none_above b m number known holds i =
    let parts = and_parts m.are_apart (nat_lt m.newest number) holds in elim (cases_Bool (is_among (class_at b i).members number)) [
      | inl on ↦ let upto = (known.0 parts.0).upto i number on in let above : m.newest < number = ltb-true _ _ parts.1 in absurd (omega (arith, upto, above))
      | inr off ↦ off
    ]

pub not_some : (o : Option ℕ) → is_some o ≡ false → o ≡ None
not_some None e = refl
not_some (Some i) e = absurd (cc)

-- a number that would be a name, and lies between two, one right above the other, is no member
pub missed_between : (b : Block) (m : Members) (at number : ℕ) → KnownApart m b.classes → m.are_rising ≡ true → number < m.others_from
    → at < length b.classes → (class_at b at).name < number
    → (at + 1 < length b.classes → number < (class_at b (at + 1)).name) → (i : ℕ) → is_among (class_at b i).members number ≡ false
missed_between b m at number a known limit within below above i = false_from_ne_true _ (λ on.
    let s = a.2 known in
    let w = member_inside b.classes i number on in
    let e : (class_at b i).name ≡ number = a.1 i number on limit in
    elim (cases_order i at) [
      | inl same ↦ let f = ap (λ (z : ℕ). (class_at b z).name) same in absurd (omega (arith, e, f, below))
      | inr o ↦ elim o [
        | inl less ↦ let up = s.rising i at less within in absurd (omega (arith, e, up, below))
        | inr more ↦
            let next = above (omega arith) in
            elim (cases_eq (at + 1) i) [
              | inl same ↦ let f = ap (λ (z : ℕ). (class_at b z).name) same in absurd (omega (arith, e, f, next))
              | inr ne ↦ let up = s.rising (at + 1) i (omega (arith, more, ne)) w in absurd (omega (arith, e, up, next))
            ]
      ]
    ])

-- nor is one below them all
pub missed_below : (b : Block) (m : Members) (number : ℕ) → KnownApart m b.classes → m.are_rising ≡ true → number < m.others_from
    → (0 < length b.classes → number < (class_at b 0).name) → (i : ℕ) → is_among (class_at b i).members number ≡ false
missed_below b m number a known limit above i = false_from_ne_true _ (λ on.
    let s = a.2 known in
    let w = member_inside b.classes i number on in
    let e : (class_at b i).name ≡ number = a.1 i number on limit in
    let first = above (omega arith) in
    elim (cases_eq 0 i) [
      | inl same ↦ let f = ap (λ (z : ℕ). (class_at b z).name) same in absurd (omega (arith, e, f, first))
      | inr ne ↦ let up = s.rising 0 i (omega (arith, ne)) w in absurd (omega (arith, e, up, first))
    ])

-- A number below which none of the first classes has a member.

pub lowest-first : (b : Block) (lowest i n : ℕ) → i < 0 → is_among (class_at b i).members n ≡ true → lowest ≤ n
lowest-first b lowest i n none on = absurd (omega arith)

pub lowest-next : (b : Block) (c : Class) (at before own lowest : ℕ) → c ≡ class_at b at → lowest ≡ min before own
    → ((i n : ℕ) → i < at → is_among (class_at b i).members n ≡ true → before ≤ n) → ((n : ℕ) → is_among c.members n ≡ true → own ≤ n)
    → (i n : ℕ) → i < at + 1 → is_among (class_at b i).members n ≡ true → lowest ≤ n
lowest-next b c at before own lowest here is earlier of_own i n w on = elim (cases_eq i at) [
  | inl e ↦ let least = of_own n (ap (λ k. is_among k.members n) here ∙ sym (ap (λ (z : ℕ). is_among (class_at b z).members n) e) ∙ on) in omega (arith, is, least)
  | inr ne ↦ let least = earlier i n (omega (arith, w, ne)) on in omega (arith, is, least)
]

pub lowest-all : (b : Block) (count lowest : ℕ) → length b.classes ≤ count
    → ((i n : ℕ) → i < count → is_among (class_at b i).members n ≡ true → lowest ≤ n)
    → (i n : ℕ) → is_among (class_at b i).members n ≡ true → lowest ≤ n
lowest-all b count lowest over all i n on = let w = member_inside b.classes i n on in all i n (omega (arith, w, over)) on

-- where names rise with the places, a class is the only one of its name
pub only_named : (b : Block) (m : Members) (name at : ℕ) → KnownApart m b.classes → m.are_rising ≡ true
    → at < length b.classes → (class_at b at).name ≡ name → IsOnlyNamed b name at
only_named b m name at a known within is = let s = a.2 known in record {
  within = within;
  named = is;
  only = λ i w e. elim (cases_order i at) [
    | inl same ↦ same
    | inr o ↦ elim o [
      | inl less ↦ let up = s.rising i at less within in absurd (omega arith)
      | inr more ↦ let up = s.rising at i more w in absurd (omega arith)
    ]
  ];
}
