-- What is told where a device is given up.
use Rattle.std.proofs.Common.{◌≡◌, ℕ, ◌≤◌, inl, inr, Result, Ok, Err, sym, subst, arith, ◌∙◌}
use Rattle.std.specs.Prelude.{IsErrAnd}
use Rattle.patch_cache.specs.Waves.{HasRisenBy, HasGivenUp, RisesIfGivenUp, IsHeld, IsHeldIfGivenUp}
use Rattle.std.proofs.lemmas.Bool.{cases_eq}
use Rattle.patch_device.specs.Device.{HasRisen, most_faults}
use Rattle.patch_device.specs.declared.devices.Device.{Ghosts}
use Rattle.patch_cache.specs.Refused.{IfGivenUp}
use Rattle.patch_cache.specs.declared.landing.TheConstants.{TRIES}
use Rattle.patch_cache.specs.declared.flights.Flights.{Flights}
use Rattle.patch_cache.specs.declared.refusals.FlushRefusal.{FlushRefusal}
use Rattle.patch_cache.specs.declared.refusals.FlushRefusal.TheVariants as flush

pub rises_so : {T : Type 0} (r : Result T FlushRefusal) (block before now : ℕ) → IsErrAnd r (λ f. f ≡ flush.DeviceGaveUp block) → HasGivenUp before now → RisesIfGivenUp r before now
rises_so (Ok x) block before now is told = absurd is
rises_so {T = T} (Err x) block before now is told = subst (λ f. RisesIfGivenUp {T = T} (Err f) before now) (sym is) told

pub held_so : {A T : Type 0} (r : Result T FlushRefusal) (block : ℕ) (flights : Flights A) → IsErrAnd r (λ f. f ≡ flush.DeviceGaveUp block) → IsHeld block flights → IsHeldIfGivenUp r flights
held_so (Ok x) block flights is told = absurd is
held_so {T = T} (Err x) block flights is told = subst (λ f. IsHeldIfGivenUp {T = T} (Err f) flights) (sym is) told

-- what is told of a refusal is told of an answer that is refused for it

rises_alike : (S T : Type 0) (e : FlushRefusal) (before now : ℕ) → RisesIfGivenUp {T = S} (Err e) before now → RisesIfGivenUp {T = T} (Err e) before now
rises_alike S T (flush.DeviceGaveUp block) before now told = told
rises_alike S T flush.SyncFailed before now told = told
rises_alike S T flush.OutOfMemory before now told = tt

pub rises_on : {T : Type 0} (S : Type 0) (r : Result T FlushRefusal) (e : FlushRefusal) (before now : ℕ) → IsErrAnd r (λ f. f ≡ e) → RisesIfGivenUp {T = S} (Err e) before now → RisesIfGivenUp r before now
rises_on S (Ok x) e before now is told = absurd is
rises_on {T = T} S (Err x) e before now is told = subst (λ f. RisesIfGivenUp {T = T} (Err f) before now) (sym is) (rises_alike S T e before now told)

held_alike : {A : Type 0} (S T : Type 0) (e : FlushRefusal) (flights : Flights A) → IsHeldIfGivenUp {T = S} (Err e) flights → IsHeldIfGivenUp {T = T} (Err e) flights
held_alike S T (flush.DeviceGaveUp block) flights told = told
held_alike S T flush.SyncFailed flights told = tt
held_alike S T flush.OutOfMemory flights told = tt

pub held_on : {A T : Type 0} (S : Type 0) (r : Result T FlushRefusal) (e : FlushRefusal) (flights : Flights A) → IsErrAnd r (λ f. f ≡ e) → IsHeldIfGivenUp {T = S} (Err e) flights → IsHeldIfGivenUp r flights
held_on S (Ok x) e flights is told = absurd is
held_on {T = T} S (Err x) e flights is told = subst (λ f. IsHeldIfGivenUp {T = T} (Err f) flights) (sym is) (held_alike S T e flights told)

given_alike : {A D : Type 0} (S T : Type 0) (g : Ghosts D) (e : FlushRefusal) (flights : Flights A) (before now : D) → IfGivenUp {T = S} g (Err e) flights before now → IfGivenUp {T = T} g (Err e) flights before now
given_alike S T g (flush.DeviceGaveUp block) flights before now told = told
given_alike S T g flush.SyncFailed flights before now told = told
given_alike S T g flush.OutOfMemory flights before now told = tt

pub given_on : {A D T : Type 0} (S : Type 0) (g : Ghosts D) (r : Result T FlushRefusal) (e : FlushRefusal) (flights : Flights A) (before now : D) → IsErrAnd r (λ f. f ≡ e) → IfGivenUp {T = S} g (Err e) flights before now
    → IfGivenUp g r flights before now
given_on S g (Ok x) e flights before now is told = absurd is
given_on {T = T} S g (Err x) e flights before now is told =
    subst (λ f. IfGivenUp {T = T} g (Err f) flights before now) (sym is) (given_alike S T g e flights before now told)

-- the device wasn't given up where there was no memory
pub no_device_gave_up : {T : Type 0} (r : Result T FlushRefusal) (P : Result T FlushRefusal → Type 0) → IsErrAnd r (λ f. f ≡ flush.OutOfMemory) → P (Err flush.OutOfMemory) → P r
no_device_gave_up (Ok x) P is told = absurd is
no_device_gave_up (Err x) P is told = subst (λ f. P (Err f)) (sym is) told

-- faults that were counted before are counted still
pub risen_later : (i old mid now : ℕ) → old ≤ mid → HasRisenBy i mid now → HasRisenBy i old now
risen_later i old mid now more (inl by) = inl (omega arith)
risen_later i old mid now more (inr most) = inr most

pub risen_once_later : (old mid now : ℕ) → old ≤ mid → now ≤ most_faults → HasRisen mid now → HasRisen old now
risen_once_later old mid now more fits (inl up) = inl (omega arith)
risen_once_later old mid now more fits (inr most) = elim (cases_eq old mid) [
  | inl same ↦ inr (same ∙ most.0, most.1)
  | inr other ↦ let top = most.0 in let still = most.1 in inl (omega (arith, top, still, other, more))
]

pub rises_later : {T : Type 0} (r : Result T FlushRefusal) (old mid now : ℕ) → old ≤ mid → now ≤ most_faults → RisesIfGivenUp r mid now → RisesIfGivenUp r old now
rises_later (Ok x) old mid now more fits told = tt
rises_later (Err (flush.DeviceGaveUp block)) old mid now more fits told = risen_later TRIES old mid now more told
rises_later (Err flush.SyncFailed) old mid now more fits told = risen_once_later old mid now more fits told
rises_later (Err flush.OutOfMemory) old mid now more fits told = tt
