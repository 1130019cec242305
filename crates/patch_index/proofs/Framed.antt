-- The live frames of an extent are an order of the slots that name it.
use Rattle.std.proofs.Common.{◌≡◌, ℕ, zero, suc, ◌+◌, ◌-◌, ◌<◌, ◌≤◌, ◌∙◌, inl, inr, Less, Equal, Bool, true, false, List, [], ◌∷◌, length, get_or, refl, sym, ap, arith}
use Rattle.std.specs.Prelude.{◌==◌, ◌||◌, ◌&&◌, nat_le, Option, Some, None}
use Rattle.std.specs.Ordering.{nat_cmp}
use Rattle.std.proofs.lemmas.Bool.{cases_Bool, cases_order}
use Rattle.std.proofs.lemmas.Bool.Decides.{nat_tests}
use Rattle.patch_frame.specs.Slot.{SlotFields}
use Rattle.patch_history.specs.Choosing.{live_from, placed, in_order}
use Rattle.patch_index.specs.Live.{slots_of, AreSaid}
use Rattle.patch_index.specs.Orders.{comes_before, ranked, holds, place_rank, place_in, Rises, IsOrder}
use Rattle.patch_index.specs.Said.{said_behind}
use Rattle.patch_index.proofs.Ranked.{Before, goes_on, alike}

-- a frame's place, with its slot
abbrev place_of : ℕ × SlotFields → List ℕ × ℕ
place_of f = (f.1.extent ∷ f.1.offset ∷ [], f.0)

abbrev Comes : ℕ × SlotFields → ℕ × SlotFields → Type 0
Comes f g = comes_before (place_of f) (place_of g) ≡ true

abbrev AreBehind : ℕ × SlotFields → List (ℕ × SlotFields) → Type 0
AreBehind f [] = Unit {0}
AreBehind f (g ∷ gs) = Comes f g × AreBehind f gs

abbrev AreSorted : List (ℕ × SlotFields) → Type 0
AreSorted [] = Unit {0}
AreSorted (f ∷ fs) = AreBehind f fs × AreSorted fs

-- frames of an extent, of slots from one on
abbrev AreOf : (extent slot : ℕ) → List (ℕ × SlotFields) → Type 0
AreOf extent slot [] = Unit {0}
AreOf extent slot (f ∷ fs) = ((f.1.extent ≡ extent) × (slot ≤ f.0)) × AreOf extent slot fs

same_cmp : (a b : ℕ) → a ≡ b → nat_cmp a b ≡ Equal
same_cmp a b is = grind (arith, nat_tests, is)

less_cmp : (a b : ℕ) → a < b → nat_cmp a b ≡ Less
less_cmp a b is = grind (arith, nat_tests, is)

comes_low : (f g : ℕ × SlotFields) → f.1.extent ≡ g.1.extent → nat_le f.1.offset g.1.offset ≡ true → f.0 < g.0 → Comes f g
comes_low f g same low less =
    let e : nat_cmp f.1.extent g.1.extent ≡ Equal = same_cmp f.1.extent g.1.extent same in
    let n : nat_cmp f.0 g.0 ≡ Less = less_cmp f.0 g.0 less in
    elim (cases_order f.1.offset g.1.offset) [
      | inl tie ↦ let o : nat_cmp f.1.offset g.1.offset ≡ Equal = same_cmp f.1.offset g.1.offset tie in rw (e, o, n) refl
      | inr (inl under) ↦ let o : nat_cmp f.1.offset g.1.offset ≡ Less = less_cmp f.1.offset g.1.offset under in rw (e, o) refl
      | inr (inr over) ↦ absurd (grind (arith, nat_tests, low, over))
    ]

comes_high : (f g : ℕ × SlotFields) → f.1.extent ≡ g.1.extent → nat_le f.1.offset g.1.offset ≡ false → Comes g f
comes_high f g same off =
    let e : nat_cmp g.1.extent f.1.extent ≡ Equal = same_cmp g.1.extent f.1.extent (sym same) in
    let o : nat_cmp g.1.offset f.1.offset ≡ Less = less_cmp g.1.offset f.1.offset (grind (arith, nat_tests, off)) in
    rw (e, o) refl

behind_placed : (h f : ℕ × SlotFields) (fs : List (ℕ × SlotFields)) → Comes h f → AreBehind h fs → AreBehind h (placed f fs)
behind_placed h f [] first rest = (first, tt)
behind_placed h f (g ∷ gs) first rest = elim (cases_Bool (nat_le f.1.offset g.1.offset)) [
  | inl u ↦ rw u (first, rest)
  | inr u ↦ rw u (rest.0, behind_placed h f gs first rest.1)
]

behind_on : (f g : ℕ × SlotFields) (fs : List (ℕ × SlotFields)) → Comes f g → AreBehind g fs → AreBehind f fs
behind_on f g [] first rest = tt
behind_on f g (h ∷ hs) first rest = (goes_on (place_of f) (place_of g) (place_of h) first rest.0, behind_on f g hs first rest.1)

sorted_placed : (extent : ℕ) (f : ℕ × SlotFields) (fs : List (ℕ × SlotFields)) → f.1.extent ≡ extent → AreOf extent (f.0 + 1) fs → AreSorted fs → AreSorted (placed f fs)
sorted_placed extent f [] is all up = (tt, tt)
sorted_placed extent f (g ∷ gs) is all up =
    let same : f.1.extent ≡ g.1.extent = is ∙ sym all.0.0 in
    elim (cases_Bool (nat_le f.1.offset g.1.offset)) [
      | inl u ↦
          let later = all.0.1 in
          let first : Comes f g = comes_low f g same u (omega (arith, later)) in
          rw u ((first, behind_on f g gs first up.0), up)
      | inr u ↦ rw u (behind_placed g f gs (comes_high f g same u) up.0, sorted_placed extent f gs is all.1 up.1)
    ]

of_placed : (extent slot : ℕ) (f : ℕ × SlotFields) (fs : List (ℕ × SlotFields)) → (f.1.extent ≡ extent) × (slot ≤ f.0) → AreOf extent slot fs → AreOf extent slot (placed f fs)
of_placed extent slot f [] is all = (is, tt)
of_placed extent slot f (g ∷ gs) is all = elim (cases_Bool (nat_le f.1.offset g.1.offset)) [
  | inl u ↦ rw u (is, all)
  | inr u ↦ rw u (all.0, of_placed extent slot f gs is all.1)
]

of_lower : (extent slot : ℕ) (fs : List (ℕ × SlotFields)) → AreOf extent (slot + 1) fs → AreOf extent slot fs
of_lower extent slot [] all = tt
of_lower extent slot (f ∷ fs) all = let low = all.0.1 in ((all.0.0, omega (arith, low)), of_lower extent slot fs all.1)

live_sorted : (extent slot : ℕ) (slots : List (Option SlotFields)) → AreOf extent slot (in_order (live_from extent slot slots)) × AreSorted (in_order (live_from extent slot slots))
live_sorted extent slot [] = (tt, tt)
live_sorted extent slot (None ∷ slots) =
    let rest = live_sorted extent (slot + 1) slots in
    (of_lower extent slot (in_order (live_from extent (slot + 1) slots)) rest.0, rest.1)
live_sorted extent slot (Some f ∷ slots) =
    let rest = live_sorted extent (slot + 1) slots in
    let lower = of_lower extent slot (in_order (live_from extent (slot + 1) slots)) rest.0 in
    elim (cases_Bool (f.extent == extent)) [
      | inl u ↦
          let is : f.extent ≡ extent = alike f.extent extent u in
          rw u (
            of_placed extent slot (slot, f) (in_order (live_from extent (slot + 1) slots)) (is, omega arith) lower,
            sorted_placed extent (slot, f) (in_order (live_from extent (slot + 1) slots)) is rest.0 rest.1,
          )
      | inr u ↦ rw u (lower, rest.1)
    ]

-- Slots of sorted frames rise.

rank_said : (slots : List (Option SlotFields)) (f : ℕ × SlotFields) → get_or slots f.0 None ≡ Some f.1 → ranked (place_in slots) f.0 ≡ place_of f
rank_said slots f is = ap (λ o. (place_rank o, f.0)) is

all_behind : (slots : List (Option SlotFields)) (f : ℕ × SlotFields) (fs : List (ℕ × SlotFields)) → get_or slots f.0 None ≡ Some f.1 → AreSaid slots fs → AreBehind f fs
    → (k d : ℕ) → k < length (slots_of fs) → Before (place_in slots) f.0 (get_or (slots_of fs) k d)
all_behind slots f [] is said rest k d less = absurd (omega (arith, less))
all_behind slots f (g ∷ gs) is said rest zero d less =
    ap (λ x. comes_before x (ranked (place_in slots) g.0)) (rank_said slots f is) ∙ ap (λ x. comes_before (place_of f) x) (rank_said slots g said.0) ∙ rest.0
all_behind slots f (g ∷ gs) is said rest (suc k) d less = all_behind slots f gs is said.1 rest.1 k d (omega (arith, less))

rises_cons : (rank : ℕ → List ℕ) (x : ℕ) (xs : List ℕ) → ((k d : ℕ) → k < length xs → Before rank x (get_or xs k d)) → Rises rank xs → Rises rank (x ∷ xs)
rises_cons rank x xs first rest zero zero d less within = absurd (omega (arith, less))
rises_cons rank x xs first rest zero (suc j) d less within = first j d (omega (arith, within))
rises_cons rank x xs first rest (suc i) zero d less within = absurd (omega (arith, less))
rises_cons rank x xs first rest (suc i) (suc j) d less within = rest i j d (omega (arith, less)) (omega (arith, within))

sorted_rise : (slots : List (Option SlotFields)) (fs : List (ℕ × SlotFields)) → AreSaid slots fs → AreSorted fs → Rises (place_in slots) (slots_of fs)
sorted_rise slots [] said up = λ i j d less within. absurd (omega (arith, within))
sorted_rise slots (f ∷ fs) said up = rises_cons (place_in slots) f.0 (slots_of fs) (all_behind slots f fs said.0 said.1 up.0) (sorted_rise slots fs said.1 up.1)

-- Which slots they are.

abbrev pub names : ℕ → Option SlotFields → Bool
names extent None = false
names extent (Some f) = f.extent == extent

exchanged : (a b c : Bool) → (a || (b || c)) ≡ (b || (a || c))
exchanged true true c = refl
exchanged true false c = refl
exchanged false true c = refl
exchanged false false c = refl

holds_placed : (f : ℕ × SlotFields) (fs : List (ℕ × SlotFields)) (n : ℕ) → holds (slots_of (placed f fs)) n ≡ ((f.0 == n) || holds (slots_of fs) n)
holds_placed f [] n = refl
holds_placed f (g ∷ gs) n = elim (cases_Bool (nat_le f.1.offset g.1.offset)) [
  | inl u ↦ rw u refl
  | inr u ↦ rw u (ap (λ b. (g.0 == n) || b) (holds_placed f gs n) ∙ exchanged (g.0 == n) (f.0 == n) (holds (slots_of gs) n))
]

holds_in_order : (fs : List (ℕ × SlotFields)) (n : ℕ) → holds (slots_of (in_order fs)) n ≡ holds (slots_of fs) n
holds_in_order [] n = refl
holds_in_order (f ∷ fs) n = holds_placed f (in_order fs) n ∙ ap (λ b. (f.0 == n) || b) (holds_in_order fs n)

same_and : (b : Bool) → b ≡ (b && true)
same_and true = refl
same_and false = refl

or_false : (b : Bool) → (b || false) ≡ b
or_false true = refl
or_false false = refl

none_here : (b : Bool) → false ≡ (b && false)
none_here true = refl
none_here false = refl

holds_from : (all : List (Option SlotFields)) (extent k : ℕ) (slots : List (Option SlotFields)) → ((j : ℕ) → get_or all (k + j) None ≡ get_or slots j None)
    → (n : ℕ) → holds (slots_of (live_from extent k slots)) n ≡ (nat_le k n && names extent (get_or all n None))
holds_from all extent k [] same n = elim (cases_Bool (nat_le k n)) [
  | inl u ↦
      let up : k ≤ n = grind (arith, nat_tests, u) in
      let e : k + (n - k) ≡ n = omega (arith, up) in
      let none : get_or all n None ≡ None = ap (λ i. get_or all i None) (sym e) ∙ same (n - k) in
      rw (u, none) refl
  | inr u ↦ rw u refl
]
holds_from all extent k (o ∷ slots) same n =
    let rest = holds_from all extent (k + 1) slots (λ j. let e : k + 1 + j ≡ k + suc j = omega arith in ap (λ i. get_or all i None) e ∙ same (suc j)) n in
    let here : get_or all k None ≡ o = (let e : k ≡ k + 0 = omega arith in ap (λ i. get_or all i None) e ∙ same 0) in
    split o ∙ ap (λ b. ((k == n) && names extent o) || b) rest ∙ joined here
  where
    split : (p : Option SlotFields) → holds (slots_of (live_from extent k (p ∷ slots))) n ≡ (((k == n) && names extent p) || holds (slots_of (live_from extent (k + 1) slots)) n)
    split None = ap (λ b. b || holds (slots_of (live_from extent (k + 1) slots)) n) (none_here (k == n))
    split (Some f) = elim (cases_Bool (f.extent == extent)) [
      | inl u ↦ rw u (ap (λ b. b || holds (slots_of (live_from extent (k + 1) slots)) n) (same_and (k == n)))
      | inr u ↦ rw u (ap (λ b. b || holds (slots_of (live_from extent (k + 1) slots)) n) (none_here (k == n)))
    ]

    joined : get_or all k None ≡ o → (((k == n) && names extent o) || (nat_le (k + 1) n && names extent (get_or all n None))) ≡ (nat_le k n && names extent (get_or all n None))
    joined here = elim (cases_order k n) [
      | inl tie ↦
          let e : (k == n) ≡ true = grind (arith, nat_tests, tie) in
          let low : nat_le (k + 1) n ≡ false = grind (arith, nat_tests, tie) in
          let at : nat_le k n ≡ true = grind (arith, nat_tests, tie) in
          let said : names extent (get_or all n None) ≡ names extent o = ap (λ i. names extent (get_or all i None)) (sym tie) ∙ ap (names extent) here in
          rw (e, low, at, said) (or_false (names extent o))
      | inr (inl less) ↦
          let e : (k == n) ≡ false = grind (arith, nat_tests, less) in
          let low : nat_le (k + 1) n ≡ true = grind (arith, nat_tests, less) in
          let at : nat_le k n ≡ true = grind (arith, nat_tests, less) in
          rw (e, low, at) refl
      | inr (inr more) ↦
          let e : (k == n) ≡ false = grind (arith, nat_tests, more) in
          let low : nat_le (k + 1) n ≡ false = grind (arith, nat_tests, more) in
          let at : nat_le k n ≡ false = grind (arith, nat_tests, more) in
          rw (e, low, at) refl
    ]

pub live_is_order : (slots : List (Option SlotFields)) (extent : ℕ)
    → IsOrder (place_in slots) (λ n. names extent (get_or slots n None)) (slots_of (in_order (live_from extent 0 slots)))
live_is_order slots extent = record {
  rises = sorted_rise slots (in_order (live_from extent 0 slots)) (said_behind slots extent 0) (live_sorted extent 0 slots).1;
  members = λ n.
      holds_in_order (live_from extent 0 slots) n ∙ holds_from slots extent 0 slots (λ j. let e : 0 + j ≡ j = omega arith in ap (λ i. get_or slots i None) e) n
      ∙ (let e : nat_le 0 n ≡ true = grind (arith, nat_tests) in ap (λ b. b && names extent (get_or slots n None)) e);
}
