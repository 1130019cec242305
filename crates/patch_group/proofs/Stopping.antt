-- What is told where a write or a sync stops.
use Rattle.std.proofs.Common.{◌≡◌, ℕ, ◌≤◌, inl, inr, Result, Ok, Err, sym, subst, arith, ◌∙◌}
use Rattle.std.specs.Prelude.{IsErrAnd}
use Rattle.std.proofs.lemmas.Bool.{cases_eq}
use Rattle.patch_device.specs.Device.{HasRisen, most_faults}
use Rattle.patch_cache.specs.Waves.{HasRisenBy, RisesIfGivenUp, IsHeldIfGivenUp}
use Rattle.patch_cache.specs.declared.flights.Flights.{Flights}
use Rattle.patch_cache.specs.declared.refusals.FlushRefusal.{FlushRefusal}
use Rattle.patch_cache.specs.declared.refusals.FlushRefusal.TheVariants as flush
use Rattle.patch_group.specs.Refusals.{sync_of_flush}
use Rattle.patch_group.specs.Syncing.{RisesIfSyncStops, IsHeldIfSyncStops}
use Rattle.patch_group.specs.declared.refusals.SyncRefusal.{SyncRefusal}

-- faults that were counted before are counted still
risen_once : (old mid now : ℕ) → old ≤ mid → now ≤ most_faults → HasRisen mid now → HasRisen old now
risen_once old mid now more fits (inl up) = inl (omega arith)
risen_once old mid now more fits (inr most) = elim (cases_eq old mid) [
  | inl same ↦ inr (same ∙ most.0, most.1)
  | inr other ↦ let top = most.0 in let still = most.1 in inl (omega (arith, top, still, other, more))
]

risen_later : (i old mid now : ℕ) → old ≤ mid → HasRisenBy i mid now → HasRisenBy i old now
risen_later i old mid now more (inl by) = inl (omega arith)
risen_later i old mid now more (inr most) = inr most

pub write_rises : {T : Type 0} (S : Type 0) (r : Result T FlushRefusal) (e : FlushRefusal) (old mid now : ℕ) → IsErrAnd r (λ f. f ≡ e) → old ≤ mid → now ≤ most_faults → RisesIfGivenUp {T = S} (Err e) mid now
    → RisesIfGivenUp r old now
write_rises S (Ok x) e old mid now is more fits told = absurd is
write_rises {T = T} S (Err f) (flush.DeviceGaveUp block) old mid now is more fits told = subst (λ x. RisesIfGivenUp {T = T} (Err x) old now) (sym is) (risen_later _ _ _ _ more told)
write_rises {T = T} S (Err f) flush.SyncFailed old mid now is more fits told = subst (λ x. RisesIfGivenUp {T = T} (Err x) old now) (sym is) (risen_once old mid now more fits told)
write_rises {T = T} S (Err f) flush.OutOfMemory old mid now is more fits told = subst (λ x. RisesIfGivenUp {T = T} (Err x) old now) (sym is) tt

pub write_holds : {A T : Type 0} (S : Type 0) (r : Result T FlushRefusal) (e : FlushRefusal) (flights : Flights A) → IsErrAnd r (λ f. f ≡ e) → IsHeldIfGivenUp {T = S} (Err e) flights → IsHeldIfGivenUp r flights
write_holds S (Ok x) e flights is told = absurd is
write_holds {T = T} S (Err f) (flush.DeviceGaveUp block) flights is told = subst (λ x. IsHeldIfGivenUp {T = T} (Err x) flights) (sym is) told
write_holds {T = T} S (Err f) flush.SyncFailed flights is told = subst (λ x. IsHeldIfGivenUp {T = T} (Err x) flights) (sym is) tt
write_holds {T = T} S (Err f) flush.OutOfMemory flights is told = subst (λ x. IsHeldIfGivenUp {T = T} (Err x) flights) (sym is) tt

pub sync_rises : {T : Type 0} (S : Type 0) (r : Result T SyncRefusal) (e : FlushRefusal) (old mid now : ℕ) → IsErrAnd r (λ f. f ≡ sync_of_flush e) → old ≤ mid → now ≤ most_faults → RisesIfGivenUp {T = S} (Err e) mid now
    → RisesIfSyncStops r old now
sync_rises S (Ok x) e old mid now is more fits told = absurd is
sync_rises {T = T} S (Err f) (flush.DeviceGaveUp block) old mid now is more fits told = subst (λ x. RisesIfSyncStops {T = T} (Err x) old now) (sym is) (risen_later _ _ _ _ more told)
sync_rises {T = T} S (Err f) flush.SyncFailed old mid now is more fits told = subst (λ x. RisesIfSyncStops {T = T} (Err x) old now) (sym is) (risen_once old mid now more fits told)
sync_rises {T = T} S (Err f) flush.OutOfMemory old mid now is more fits told = subst (λ x. RisesIfSyncStops {T = T} (Err x) old now) (sym is) tt

pub sync_holds : {A T : Type 0} (S : Type 0) (r : Result T SyncRefusal) (e : FlushRefusal) (flights : Flights A) → IsErrAnd r (λ f. f ≡ sync_of_flush e) → IsHeldIfGivenUp {T = S} (Err e) flights
    → IsHeldIfSyncStops r flights
sync_holds S (Ok x) e flights is told = absurd is
sync_holds {T = T} S (Err f) (flush.DeviceGaveUp block) flights is told = subst (λ x. IsHeldIfSyncStops {T = T} (Err x) flights) (sym is) told
sync_holds {T = T} S (Err f) flush.SyncFailed flights is told = subst (λ x. IsHeldIfSyncStops {T = T} (Err x) flights) (sym is) tt
sync_holds {T = T} S (Err f) flush.OutOfMemory flights is told = subst (λ x. IsHeldIfSyncStops {T = T} (Err x) flights) (sym is) tt

-- a refusal of one kind, as what is told of that kind
pub told_as : {T : Type 0} (r : Result T SyncRefusal) (e : SyncRefusal) (P : Result T SyncRefusal → Type 0) → IsErrAnd r (λ f. f ≡ e) → P (Err e) → P r
told_as (Ok x) e P is told = absurd is
told_as (Err f) e P is told = subst (λ x. P (Err x)) (sym is) told
