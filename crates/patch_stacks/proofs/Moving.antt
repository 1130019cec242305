-- A class moved down past others on which it doesn't depend.
use Rattle.std.proofs.Common.{◌≡◌, ℕ, ◌+◌, ◌-◌, ◌<◌, ◌≤◌, ◌⊎◌, ◌∙◌, true, false, inl, inr, List, length, get_or, refl, sym, ap, arith}
use Rattle.std.specs.Prelude.{◌==◌, nat_lt, nat_le, if◌then◌else◌}
use Rattle.std.specs.List.{insert, remove}
use Rattle.std.proofs.lemmas.List.Edits.{length-remove, length-insert, get_or-remove_below, get_or-remove_above, get_or-insert_below, get_or-insert_at, get_or-insert_above}
use Rattle.std.proofs.lemmas.Bool.{cases_lt, cases_order, lt-ltb, le-ltb, le-leb, lt-leb, eq-eqb, ne_eqb}
use Rattle.patch_records.specs.Records.{Class, no_class}
use Rattle.patch_stacks.specs.State.{Block, class_at, moved_down}

-- where what stands at a place now stood
abbrev pub came : ℕ → ℕ → ℕ → ℕ
came front k i = if nat_lt i front then i else (if i == front then k else (if nat_le i k then i - 1 else i))

pub came_is : (front k i : ℕ) → ((i < front) × (came front k i ≡ i)) ⊎ (((i ≡ front) × (came front k i ≡ k)) ⊎ (((front < i) × (i ≤ k) × (came front k i ≡ i - 1)) ⊎ ((front < i) × (k < i) × (came front k i ≡ i))))
came_is front k i = elim (cases_order i front) [
  | inl e ↦ let t : nat_lt i front ≡ false = le-ltb _ _ (omega arith) in let u : (i == front) ≡ true = eq-eqb _ _ e in inr (inl (e, rw (t, u) refl))
  | inr o ↦ elim o [
    | inl before ↦ let t : nat_lt i front ≡ true = lt-ltb _ _ before in inl (before, rw t refl)
    | inr behind ↦ let t : nat_lt i front ≡ false = le-ltb _ _ (omega arith) in let u : (i == front) ≡ false = ne_eqb _ _ (λ q. absurd (omega arith)) in
        elim (cases_lt k i) [
          | inl past ↦ let v : nat_le i k ≡ false = lt-leb _ _ past in inr (inr (inr (behind, past, rw (t, u, v) refl)))
          | inr upto ↦ let v : nat_le i k ≡ true = le-leb _ _ upto in inr (inr (inl (behind, upto, rw (t, u, v) refl)))
        ]
  ]
]

pub length-moved : (cs : List Class) (c : Class) (front k : ℕ) → front ≤ k → k < length cs → length (insert (remove cs k) front c) ≡ length cs
length-moved cs c front k down within = let l = length-remove cs k within in length-insert (remove cs k) front c (omega arith) ∙ l

moved-before : (cs : List Class) (c : Class) (front k i : ℕ) (d : Class) → front ≤ k → k < length cs → i < front
    → get_or (insert (remove cs k) front c) i d ≡ get_or cs i d
moved-before cs c front k i d down within h = let l = length-remove cs k within in
    get_or-insert_below (remove cs k) front c d i h (omega arith) ∙ get_or-remove_below cs k d i (omega arith) within

moved-here : (cs : List Class) (c : Class) (front k : ℕ) (d : Class) → front ≤ k → k < length cs
    → get_or (insert (remove cs k) front c) front d ≡ c
moved-here cs c front k d down within = let l = length-remove cs k within in get_or-insert_at (remove cs k) front c d (omega arith)

moved-past : (cs : List Class) (c : Class) (front k i : ℕ) (d : Class) → front ≤ k → k < length cs → front < i → i ≤ k
    → get_or (insert (remove cs k) front c) i d ≡ get_or cs (i - 1) d
moved-past cs c front k i d down within h to = let l = length-remove cs k within in
    let e : i ≡ i - 1 + 1 = omega arith in
    ap (λ n. get_or (insert (remove cs k) front c) n d) e ∙ get_or-insert_above (remove cs k) front c d (i - 1) (omega arith) (omega arith)
    ∙ get_or-remove_below cs k d (i - 1) (omega arith) within

moved-behind : (cs : List Class) (c : Class) (front k i : ℕ) (d : Class) → front ≤ k → k < length cs → k < i
    → get_or (insert (remove cs k) front c) i d ≡ get_or cs i d
moved-behind cs c front k i d down within h = let l = length-remove cs k within in
    let e : i ≡ i - 1 + 1 = omega arith in
    ap (λ n. get_or (insert (remove cs k) front c) n d) e ∙ get_or-insert_above (remove cs k) front c d (i - 1) (omega arith) (omega arith)
    ∙ get_or-remove_above cs k d (i - 1) (omega arith) within ∙ ap (λ n. get_or cs n d) (sym e)

pub at_came : (b : Block) (front k i : ℕ) → front ≤ k → k < length b.classes → class_at (moved_down b front k) i ≡ class_at b (came front k i)
at_came b front k i down within = elim (came_is front k i) [
  | inl s ↦ moved-before b.classes (class_at b k) front k i no_class down within s.0 ∙ ap (class_at b) (sym s.1)
  | inr o ↦ elim o [
    | inl s ↦ ap (λ n. class_at (moved_down b front k) n) s.0 ∙ moved-here b.classes (class_at b k) front k no_class down within ∙ ap (class_at b) (sym s.1)
    | inr o ↦ elim o [
      | inl s ↦ moved-past b.classes (class_at b k) front k i no_class down within s.0 s.1 ∙ ap (class_at b) (sym s.2)
      | inr s ↦ moved-behind b.classes (class_at b k) front k i no_class down within s.1 ∙ ap (class_at b) (sym s.2)
    ]
  ]
]

-- places are kept apart, and one comes before another as it did, but for the class that was moved
pub came_facts : (front k i j : ℕ) → front ≤ k → i < j
    → (came front k i < came front k j) ⊎ ((came front k i ≡ k) × (front ≤ came front k j) × (came front k j < k))
came_facts front k i j down less = elim (came_is front k i) [
  | inl s ↦ elim (came_is front k j) [ inl t ↦ inl (omega arith) | inr o ↦ elim o [ inl t ↦ inl (omega arith) | inr o ↦ elim o [ inl t ↦ inl (omega arith) | inr t ↦ inl (omega arith) ] ] ]
  | inr p ↦ elim p [
    | inl s ↦ elim (came_is front k j) [ inl t ↦ absurd (omega arith) | inr o ↦ elim o [ inl t ↦ absurd (omega arith) | inr o ↦ elim o [ inl t ↦ inr (s.1, omega arith, omega arith) | inr t ↦ inl (omega arith) ] ] ]
    | inr p ↦ elim p [
      | inl s ↦ elim (came_is front k j) [ inl t ↦ absurd (omega arith) | inr o ↦ elim o [ inl t ↦ absurd (omega arith) | inr o ↦ elim o [ inl t ↦ inl (omega arith) | inr t ↦ inl (omega arith) ] ] ]
      | inr s ↦ elim (came_is front k j) [ inl t ↦ absurd (omega arith) | inr o ↦ elim o [ inl t ↦ absurd (omega arith) | inr o ↦ elim o [ inl t ↦ absurd (omega arith) | inr t ↦ inl (omega arith) ] ] ]
    ]
  ]
]

pub came_within : (front k i n : ℕ) → front ≤ k → k < n → i < n → came front k i < n
came_within front k i n down within h = elim (came_is front k i) [ inl s ↦ omega arith | inr o ↦ elim o [ inl s ↦ omega arith | inr o ↦ elim o [ inl s ↦ omega arith | inr s ↦ omega arith ] ] ]

-- each class is somewhere
pub went : (front k n m : ℕ) → front ≤ k → k < n → m < n → (i : ℕ) × (i < n) × (came front k i ≡ m)
went front k n m down within h = elim (cases_lt m front) [
  | inl before ↦ (m, h, elim (came_is front k m) [ inl s ↦ omega arith | inr o ↦ elim o [ inl s ↦ absurd (omega arith) | inr o ↦ elim o [ inl s ↦ absurd (omega arith) | inr s ↦ omega arith ] ] ])
  | inr from ↦ elim (cases_order m k) [
    | inl e ↦ (front, omega arith, elim (came_is front k front) [ inl s ↦ absurd (omega arith) | inr o ↦ elim o [ inl s ↦ omega arith | inr o ↦ elim o [ inl s ↦ absurd (omega arith) | inr s ↦ absurd (omega arith) ] ] ])
    | inr o ↦ elim o [
      | inl less ↦ (m + 1, omega arith, elim (came_is front k (m + 1)) [ inl s ↦ absurd (omega arith) | inr o ↦ elim o [ inl s ↦ absurd (omega arith) | inr o ↦ elim o [ inl s ↦ omega arith | inr s ↦ absurd (omega arith) ] ] ])
      | inr more ↦ (m, h, elim (came_is front k m) [ inl s ↦ absurd (omega arith) | inr o ↦ elim o [ inl s ↦ absurd (omega arith) | inr o ↦ elim o [ inl s ↦ absurd (omega arith) | inr s ↦ omega arith ] ] ])
    ]
  ]
]
