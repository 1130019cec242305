-- The cheapest of the extents so far.
use Rattle.std.proofs.Common.{◌≡◌, ℕ, ◌+◌, ◌-◌, ◌<◌, ◌≤◌, ◌⊎◌, inl, inr, Option, Some, None, refl, sym, ap, arith, subst}
use Rattle.std.specs.Prelude.{nat_le}
use Rattle.std.proofs.lemmas.Bool.{cases_Bool}
use Rattle.std.proofs.lemmas.Bool.Decides.{nat_tests}
use Rattle.patch_history.specs.Shelf.{Shelf}
use Rattle.patch_room.specs.Candidates.{cheaper}
use Rattle.patch_room.specs.Room.{extent_count, extent_bytes, live_in, IsCheapest, MayBeWon, NoneWorthWinning}
use Rattle.patch_room.specs.declared.choosing.Candidate.{Candidate}

-- of the extents below this number that may be won back it is the cheapest
pub record IsLeast (s : Shelf) (below : ℕ) (c : Candidate) : Type 0 where
  pub may : MayBeWon s c.extent
  pub live_is : c.live ≡ live_in s c.extent
  pub least : (other : ℕ) → other < below → MayBeWon s other
      → (live_in s c.extent < live_in s other) ⊎ ((live_in s c.extent ≡ live_in s other) × (c.extent ≤ other))
  pub within : c.extent < below

-- or there is none
abbrev pub IsBest : Shelf → (below : ℕ) → Option Candidate → Type 0
IsBest s below None = (other : ℕ) → other < below → MayBeWon s other → ⊥
IsBest s below (Some c) = IsLeast s below c

-- the next one, or one before
earlier : (other i : ℕ) → other < i + 1 → (other < i) ⊎ (other ≡ i)
earlier other i less = elim (cases_Bool (nat_le i other)) [
  | inl t ↦ inr (let low : i ≤ other = grind (arith, nat_tests) in omega (arith, low, less))
  | inr t ↦ inl (let high : other < i = grind (arith, nat_tests) in high)
]

pub best_begin : (s : Shelf) → IsBest s 0 None
best_begin s other less may = omega (arith, less)

pub best_past : (s : Shelf) (i : ℕ) (best : Option Candidate) → IsBest s i best → (MayBeWon s i → ⊥) → IsBest s (i + 1) best
best_past s i None is not = λ other less may. elim (earlier other i less) [
  | inl before ↦ is other before may
  | inr same ↦ not (subst (MayBeWon s) same may)
]
best_past s i (Some c) is not = record {
  may = is.may;
  live_is = is.live_is;
  least = λ other less may. elim (earlier other i less) [
    | inl before ↦ is.least other before may
    | inr same ↦ absurd (not (subst (MayBeWon s) same may))
  ];
  within = (let within = is.within in omega (arith, within));
}

first_best : (s : Shelf) (i live : ℕ) → IsBest s i None → MayBeWon s i → live ≡ live_in s i
    → IsLeast s (i + 1) (record { extent = i; live = live })
first_best s i live is may live_is = record {
  may = may;
  live_is = live_is;
  least = λ other less other_may. elim (earlier other i less) [
    | inl before ↦ absurd (is other before other_may)
    | inr same ↦ inr (ap (live_in s) (sym same), omega (arith, same))
  ];
  within = omega arith;
}

pub best_next : (s : Shelf) (i live : ℕ) (best : Option Candidate) → IsBest s i best → MayBeWon s i → live ≡ live_in s i
    → IsBest s (i + 1) (Some (cheaper best (record { extent = i; live = live })))
best_next s i live None is may live_is = first_best s i live is may live_is
best_next s i live (Some c) is may live_is =
    let second : Candidate = record { extent = i; live = live } in
    let c_is = is.live_is in
    let within = is.within in elim (cases_Bool (nat_le c.live live)) [
      | inl t ↦
          let low : c.live ≤ live = grind (arith, nat_tests) in
          let kept : IsLeast s (i + 1) c = record {
            may = is.may;
            live_is = c_is;
            least = λ other less other_may. elim (earlier other i less) [
              | inl before ↦ is.least other before other_may
              | inr same ↦
                  let there = ap (live_in s) same in
                  elim (cases_Bool (nat_le live c.live)) [
                    | inl u ↦ inr (let high : live ≤ c.live = grind (arith, nat_tests) in (omega (arith, low, high, c_is, live_is, there), omega (arith, within, same)))
                    | inr u ↦ inl (let less : c.live < live = grind (arith, nat_tests) in omega (arith, less, c_is, live_is, there))
                  ]
            ];
            within = omega (arith, within);
          } in
          subst (IsLeast s (i + 1)) (let e : c ≡ cheaper (Some c) second = rw t refl in e) kept
      | inr t ↦
          let high : live < c.live = grind (arith, nat_tests) in
          let new : IsLeast s (i + 1) second = record {
            may = may;
            live_is = live_is;
            least = λ other less other_may. elim (earlier other i less) [
              | inl before ↦ elim (is.least other before other_may) [
                | inl less ↦ inl (omega (arith, less, high, c_is, live_is))
                | inr same ↦ inl (let eq = same.0 in omega (arith, eq, high, c_is, live_is))
              ]
              | inr same ↦ inr (ap (live_in s) (sym same), omega (arith, same))
            ];
            within = omega arith;
          } in
          subst (IsLeast s (i + 1)) (let e : second ≡ cheaper (Some c) second = rw t refl in e) new
    ]

-- of all extents
pub best_cheapest : (s : Shelf) (c : Candidate) → IsLeast s (extent_count s) c → IsCheapest s c.extent
best_cheapest s c is = record { may = is.may; least = λ other may. is.least other may.known may }

pub best_none : (s : Shelf) → IsBest s (extent_count s) None → (extent : ℕ) → MayBeWon s extent → ⊥
best_none s is extent may = is extent may.known may

-- the cheapest one has room or none has
pub none_worth : (s : Shelf) (c : Candidate) (len : ℕ) → IsCheapest s c.extent → c.live ≡ live_in s c.extent
    → extent_bytes s - c.live < len → NoneWorthWinning s len
none_worth s c len cheapest live_is less = λ extent may. elim (cheapest.least extent may) [
  | inl fewer ↦ omega (arith, fewer, live_is, less)
  | inr same ↦ (let eq = same.0 in omega (arith, eq, live_is, less))
]
