-- How much is live in the extents of a full disk.
use Rattle.std.proofs.Common.{sym, ap, ◌≡◌, ◌≢◌, ℕ, zero, suc, ◌+◌, ◌-◌, ◌*◌, ◌<◌, ◌≤◌, ◌⊎◌, ◌∙◌, inl, inr, true, false}
use Rattle.std.proofs.Common.{List, [], ◌∷◌, length, Option, Some, None, refl, arith, subst}
use Rattle.std.specs.Prelude.{◌==◌, if◌then◌else◌, filter}
use Rattle.std.specs.List.{range_with_len}
use Rattle.std.specs.Option.{option_or}
use Rattle.std.proofs.lemmas.Bool.{cases_Bool}
use Rattle.std.proofs.lemmas.Bool.Decides.{nat_tests}
use Rattle.patch_plans.specs.Extents.{generation_at, offset_at}
use Rattle.patch_history.specs.Choosing.{current_for, empty_extents, first_of_two, extent_for_put}
use Rattle.patch_history.specs.Refusing.{is_current}
use Rattle.patch_history.specs.Shelf.{Shelf}
use Rattle.patch_room.specs.Room.{extent_count, extent_bytes, live_in, live_among, all_live, NoneWorthWinning, IsSpent, IsFull}
use Rattle.std.proofs.lemmas.List.FromFn.{length-range_with_len}

-- how many of some extents are the current one
abbrev count_current : Shelf → List ℕ → ℕ
count_current s [] = 0
count_current s (e ∷ es) = if is_current s e then suc (count_current s es) else count_current s es

-- and how many are empty
abbrev count_empty : Shelf → List ℕ → ℕ
count_empty s es = length (filter (λ e. offset_at s.extents e == 0) es)

-- so it is of each of some extents
abbrev Each : (ℕ → Type 0) → List ℕ → Type 0
Each P [] = Unit {0}
Each P (e ∷ es) = P e × Each P es

-- an extent is empty, or the current one, in which something is live, or has so many live bytes
abbrev Weighs : Shelf → (room e : ℕ) → Type 0
Weighs s room e =
    (offset_at s.extents e ≡ 0)
    ⊎ ((is_current s e ≡ true) × (1 ≤ offset_at s.extents e) × (1 ≤ live_in s e))
    ⊎ ((is_current s e ≡ false) × (1 ≤ offset_at s.extents e) × (suc room ≤ live_in s e))

with_empty : (k m l e c room : ℕ) → k * suc room ≤ l + e * suc room + c * room
    → suc k * suc room ≤ (m + l) + suc e * suc room + c * room
with_empty k m l e c room h = omega arith

with_both : (k m l e c room : ℕ) → k * suc room ≤ l + e * suc room + c * room
    → suc k * suc room ≤ (m + l) + suc e * suc room + suc c * room
with_both k m l e c room h = omega arith

with_current : (k m l e c room : ℕ) → 1 ≤ m → k * suc room ≤ l + e * suc room + c * room
    → suc k * suc room ≤ (m + l) + e * suc room + suc c * room
with_current k m l e c room some h = omega arith

with_other : (k m l e c room : ℕ) → suc room ≤ m → k * suc room ≤ l + e * suc room + c * room
    → suc k * suc room ≤ (m + l) + e * suc room + c * room
with_other k m l e c room some h = omega arith

weighed : (s : Shelf) (room : ℕ) (es : List ℕ) → Each (Weighs s room) es
    → length es * suc room ≤ live_among s es + count_empty s es * suc room + count_current s es * room
weighed s room [] h = omega arith
weighed s room (e ∷ es) h =
    let rest = weighed s room es h.1 in
    let k = length es in
    let m = live_in s e in
    let l = live_among s es in
    let n = count_empty s es in
    let c = count_current s es in elim (h.0) [
      | inl nought ↦
          let t : (offset_at s.extents e == 0) ≡ true = grind (arith, nat_tests) in elim (cases_Bool (is_current s e)) [
            | inl u ↦ rw (t, u) (with_both k m l n c room rest)
            | inr u ↦ rw (t, u) (with_empty k m l n c room rest)
          ]
      | inr some ↦ elim some [
        | inl h ↦
            let begun = h.1 in
            let t : (offset_at s.extents e == 0) ≡ false = grind (arith, nat_tests) in
            rw (t, h.0) (with_current k m l n c room h.2 rest)
        | inr h ↦
            let begun = h.1 in
            let t : (offset_at s.extents e == 0) ≡ false = grind (arith, nat_tests) in
            rw (t, h.0) (with_other k m l n c room h.2 rest)
      ]
    ]

-- One extent at most is the current one.

none_current : (s : Shelf) (c a n : ℕ) → s.current ≡ Some c → c < a → count_current s (range_with_len a n) ≡ 0
none_current s c a zero at less = refl
none_current s c a (suc n) at less =
    let off : (c == a) ≡ false = grind (arith, nat_tests) in
    let u : is_current s a ≡ false = rw at off in
    rw u (none_current s c (a + 1) n at (omega (arith, less)))

one_current_of : (s : Shelf) (c a n : ℕ) → s.current ≡ Some c → count_current s (range_with_len a n) ≤ 1
one_current_of s c a zero at = omega arith
one_current_of s c a (suc n) at = elim (cases_Bool (c == a)) [
  | inl t ↦
      let u : is_current s a ≡ true = rw at t in
      let none = none_current s c (a + 1) n at (let same : c ≡ a = grind (arith, nat_tests) in omega (arith, same)) in
      rw u (omega (arith, none))
  | inr t ↦ let u : is_current s a ≡ false = rw at t in rw u (one_current_of s c (a + 1) n at)
]

no_current : (s : Shelf) (es : List ℕ) → s.current ≡ None → count_current s es ≡ 0
no_current s [] at = refl
no_current s (e ∷ es) at = let u : is_current s e ≡ false = rw at refl in rw u (no_current s es at)

one_current : (s : Shelf) (o : Option ℕ) (n : ℕ) → s.current ≡ o → count_current s (range_with_len 0 n) ≤ 1
one_current s None n at = let none = no_current s (range_with_len 0 n) at in omega (arith, none)
one_current s (Some c) n at = one_current_of s c 0 n at

-- One extent at most is empty where a put finds none.

second : {X : Type 0} (a b : Option X) → option_or a b ≡ None → b ≡ None
second None b h = h
second (Some x) b h = absurd (let g : Some x ≡ None = h in cc)

few : (xs : List ℕ) → first_of_two xs ≡ None → length xs ≤ 1
few [] h = omega arith
few (x ∷ []) h = omega arith
few (x ∷ y ∷ xs) h = absurd (let g : Some x ≡ None = h in cc)

-- What is live in an extent.

current_is : (s : Shelf) (e : ℕ) (o : Option ℕ) → s.current ≡ o → is_current s e ≡ true → s.current ≡ Some e
current_is s e None at t = absurd (let no : false ≡ true = rw at at t in cc)
current_is s e (Some c) at t =
    let on : (c == e) ≡ true = rw at at t in
    let same : c ≡ e = grind (arith, nat_tests) in at ∙ ap (λ x. Some x) same

current_not : (s : Shelf) (e : ℕ) → is_current s e ≡ false → s.current ≡ Some e → ⊥
current_not s e t at =
    let u : (e == e) ≡ false = rw at at t in
    let on : (e == e) ≡ true = grind (arith, nat_tests) in
    let no : false ≡ true = sym u ∙ on in cc

-- there are two extents, and the current one is not empty
pub record IsDisk (s : Shelf) : Type 0 where
  pub some : 2 ≤ extent_count s
  pub begun : (e : ℕ) → s.current ≡ Some e → 1 ≤ offset_at s.extents e

module _ (s : Shelf) (len : ℕ) (disk : IsDisk s) (fits : len ≤ extent_bytes s) (worth : NoneWorthWinning s len) where
  weigh : (e : ℕ) → e < extent_count s → IsSpent s ⊎ Weighs s (extent_bytes s - len) e
  weigh e known = elim (cases_Bool (offset_at s.extents e == 0)) [
    | inl u ↦ inr (inl (grind (arith, nat_tests)))
    | inr u ↦
        let begun : 1 ≤ offset_at s.extents e = grind (arith, nat_tests) in
        elim (cases_Bool (generation_at s.extents e == 4294967295)) [
          | inl spent ↦ inl (e, known, begun, (let last : generation_at s.extents e ≡ 4294967295 = grind (arith, nat_tests) in last))
          | inr more ↦
              let fresh : generation_at s.extents e ≢ 4294967295 = grind (arith, nat_tests) in
              elim (cases_Bool (is_current s e)) [
                | inl c ↦ elim (cases_Bool (live_in s e == 0)) [
                  | inl none ↦
                      let dead : live_in s e ≡ 0 = grind (arith, nat_tests) in
                      let large = worth e (record { known = known; begun = begun; idle = λ at. dead; fresh = fresh }) in
                      absurd (omega (arith, large, fits, dead))
                  | inr some ↦ let live : 1 ≤ live_in s e = grind (arith, nat_tests) in inr (inr (inl (c, begun, live)))
                ]
                | inr c ↦
                    let large = worth e (record { known = known; begun = begun; idle = λ at. absurd (current_not s e c at); fresh = fresh }) in
                    inr (inr (inr (c, begun, omega (arith, large, fits))))
              ]
        ]
  ]

  weigh_range : (a n : ℕ) → a + n ≤ extent_count s → IsSpent s ⊎ Each (Weighs s (extent_bytes s - len)) (range_with_len a n)
  weigh_range a zero within = inr tt
  weigh_range a (suc n) within = elim (weigh a (omega (arith, within))) [
    | inl spent ↦ inl spent
    | inr first ↦ elim (weigh_range (a + 1) n (omega (arith, within))) [
      | inl spent ↦ inl spent
      | inr rest ↦ inr (first, rest)
    ]
  ]

-- the sum, where one extent is empty
counted : (k l e c room : ℕ) → e ≤ 1 → c ≤ 1 → suc (suc k) * suc room ≤ l + e * suc room + c * room → k * room < l
counted k l zero zero room few one h = omega arith
counted k l zero (suc zero) room few one h = omega arith
counted k l (suc zero) zero room few one h = omega arith
counted k l (suc zero) (suc zero) room few one h = omega arith
counted k l (suc (suc e)) c room few one h = absurd (omega (arith, few))
counted k l e (suc (suc c)) room few one h = absurd (omega (arith, one))

pub disks_are_full : (s : Shelf) (len : ℕ) → IsDisk s → len ≤ extent_bytes s → extent_for_put s len ≡ None
    → NoneWorthWinning s len → IsFull s len
disks_are_full s len disk fits none worth = elim (weigh_range s len disk fits worth 0 (extent_count s) (omega arith)) [
  | inl spent ↦ inr (inl spent)
  | inr each ↦
      let room = extent_bytes s - len in
      let empties = few (empty_extents s) (second (current_for s len) (first_of_two (empty_extents s)) none) in
      let all = weighed s room (range_with_len 0 (extent_count s)) each in
      let currents = one_current s s.current (extent_count s) refl in
      let long = length-range_with_len 0 (extent_count s) in
      let some = disk.some in
      let count : extent_count s ≡ suc (suc (extent_count s - 2)) = omega (arith, some) in
      inr (inr (counted (extent_count s - 2) (all_live s) (count_empty s (range_with_len 0 (extent_count s)))
      (count_current s (range_with_len 0 (extent_count s))) room empties currents
      (subst (λ n. n * suc room ≤ all_live s + count_empty s (range_with_len 0 (extent_count s)) * suc room + count_current s (range_with_len 0 (extent_count s)) * room) (long ∙ count) all)))
]
