-- What a call of a device may do.
use Rattle.std.specs.Prelude.{ℕ, List, ◌≡◌, ◌<◌, ◌≤◌, ◌⊎◌, ◌↔◌, Result, Ok, Err, OnOk, OnErr, IsErrOf, slice_set, refl}
use Rattle.std.proofs.Common.{inl, inr, arith}
use Rattle.patch_device.specs.declared.refusals.DeviceRefusal.{DeviceRefusal}
use Rattle.patch_device.specs.declared.refusals.DeviceRefusal.TheVariants.{NoSuchBlock, Fault}

-- the greatest count of faults, at which it stays
abbrev pub most_faults : ℕ
most_faults = 18446744073709551615

-- a fault was counted: the count rose, or stays at its greatest
abbrev pub HasRisen : ℕ → ℕ → Type 0
HasRisen before now = (before < now) ⊎ ((before ≡ most_faults) × (now ≡ most_faults))

-- the count of faults before and after a call goes with its answer: a fault is counted, and nothing else is
abbrev pub CountsFault : {T : Type 0} → ℕ → ℕ → Result T DeviceRefusal → Type 0
CountsFault before now (Ok _) = now ≡ before
CountsFault before now (Err NoSuchBlock) = now ≡ before
CountsFault before now (Err Fault) = HasRisen before now

-- the contents are as before, or with these bytes in this block
abbrev pub IsOldOrNew : List (List ℕ) → ℕ → List ℕ → List (List ℕ) → Type 0
IsOldOrNew old n bytes new = (new ≡ old) ⊎ (new ≡ slice_set old n bytes)

-- A write of these bytes to the block: a cut leaves what it would have left before, with them in the block or without.
abbrev pub LandsOrNot : (before : List (List ℕ) → Type 0) → ℕ → List ℕ → (now : List (List ℕ) → Type 0) → Type 0
LandsOrNot before n bytes now = (disk : List (List ℕ)) → now disk → (old : List (List ℕ)) × before old × IsOldOrNew old n bytes disk

-- a cut leaves nothing that it wouldn't have left before
abbrev pub LeavesNoMore : (before now : List (List ℕ) → Type 0) → Type 0
LeavesNoMore before now = (disk : List (List ℕ)) → now disk → before disk

-- a cut leaves these blocks and nothing else
abbrev pub LeavesJust : List (List ℕ) → (List (List ℕ) → Type 0) → Type 0
LeavesJust blocks now = (disk : List (List ℕ)) → now disk → disk ≡ blocks

-- Time goes on: no moment gets lost, and what a cut at one that was would have left stays as it is.
pub record Elapses (before now : ℕ) (left_at left_now : ℕ → List (List ℕ) → Type 0) : Type 0 where
  pub later : before ≤ now
  pub past : (t : ℕ) (disk : List (List ℕ)) → t ≤ before → left_at t disk ↔ left_now t disk

-- so it does where nothing is done,
pub elapses_still : (now : ℕ) (left_at : ℕ → List (List ℕ) → Type 0) → Elapses now now left_at left_at
elapses_still now left_at = record { later = omega arith; past = λ t disk known. (λ h. h, λ h. h) }

-- and over some calls and then some more
pub elapses_both : (old mid now : ℕ) (left_old left_mid left_now : ℕ → List (List ℕ) → Type 0) → Elapses old mid left_old left_mid → Elapses mid now left_mid left_now
    → Elapses old now left_old left_now
elapses_both old mid now left_old left_mid left_now first second = record {
  later = let a = first.later in let b = second.later in omega (arith, a, b);
  past = λ t disk known.
      let one = first.past t disk known in
      let two = second.past t disk (let a = first.later in omega (arith, a, known)) in (λ h. two.0 (one.0 h), λ h. one.1 (two.1 h));
}

-- a call that names a block that there is, and is refused, met a fault
pub risen_where_refused : {T : Type 0} (before now count n : ℕ) (refusal : DeviceRefusal) → CountsFault {T = T} before now (Err refusal)
    → (IsErrOf {T = T} (Err refusal) NoSuchBlock ↔ (count ≤ n)) → n < count → HasRisen before now
risen_where_refused before now count n NoSuchBlock counts none exists = absurd (omega (arith, none.0 refl, exists))
risen_where_refused before now count n Fault counts none exists = counts

-- no fault gets lost where one is counted for a refusal alone
pub never_fewer : {T E : Type 0} (result : Result T E) (before now : ℕ) → OnOk result (now ≡ before) → OnErr result (HasRisen before now) → before ≤ now
never_fewer (Ok done) before now same risen = omega (arith, same)
never_fewer (Err refusal) before now same (inl risen) = omega (arith, risen)
never_fewer (Err refusal) before now same (inr most) = let a = most.0 in let b = most.1 in omega (arith, a, b)

-- no fault at all
pub none_fits : 0 ≤ most_faults
none_fits = omega arith
