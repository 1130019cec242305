-- Writes and syncs that a device refuses.
use Rattle.std.specs.Prelude.{ℕ, zero, suc, ◌+◌, ◌≡◌, ◌≤◌, List, Result, Ok, Err}
use Rattle.patch_model.specs.Member.{In}
use Rattle.patch_device.specs.Device.{HasRisen, IsOldOrNew, LandsOrNot}
use Rattle.patch_device.specs.SameDevice.{IsSameDevice, same_both, may_leave}
use Rattle.patch_device.specs.declared.devices.Device.{Ghosts}
use Rattle.patch_cache.specs.Running.{held_by}
use Rattle.patch_cache.specs.declared.flights.Flights.{Flights}
use Rattle.patch_cache.specs.declared.flights.Flight.{Flight}
use Rattle.patch_cache.specs.declared.landing.TheConstants.{TRIES}
use Rattle.patch_cache.specs.declared.refusals.FlushRefusal.{FlushRefusal}
use Rattle.patch_cache.specs.declared.refusals.FlushRefusal.TheVariants as flush

-- One write of these bytes to the block was refused: a fault was counted, an honest device holds the block as it was or as it was to
-- be, and so does what a cut may leave of it.
pub record IsRefused {D : Type 0} (g : Ghosts D) (block : ℕ) (bytes : List ℕ) (before now : D) : Type 0 where
  pub same : IsSameDevice g before now
  pub fault : HasRisen (g.fault_count before) (g.fault_count now)
  pub either : g.is_honest before → IsOldOrNew (g.contents before) block bytes (g.contents now)
  pub moment : g.moment now ≤ g.moment before + 1
  pub left : g.is_honest before → LandsOrNot (may_leave g before) block bytes (may_leave g now)

-- so many of them were, one after another, and nothing else was done
abbrev pub AreRefused : {D : Type 0} → Ghosts D → ℕ → List ℕ → ℕ → (before now : D) → Type 0
AreRefused g block bytes zero before now = before ≡ now
AreRefused {D = D} g block bytes (suc n) before now = (mid : D) × AreRefused g block bytes n before mid × IsRefused g block bytes mid now

-- The device was last asked for this write alone, and refused it as often as a write is tried.
pub record HasRefused {D : Type 0} (g : Ghosts D) (block : ℕ) (bytes : List ℕ) (before now : D) : Type 0 where
  pub mid : D
  pub same : IsSameDevice g before mid
  pub tries : AreRefused g block bytes TRIES mid now

-- and it is the write of a held flight, which is of the block
pub record HasRefusedHeld {A D : Type 0} (g : Ghosts D) (block : ℕ) (held : List (Flight A)) (before now : D) : Type 0 where
  pub flight : Flight A
  pub inside : In held flight
  pub of : flight.block ≡ block
  pub refused : HasRefused g flight.block flight.image before now

-- The device was last asked for a sync, and refused it: a fault was counted, and it is spent.
pub record HasNotSynced {D : Type 0} (g : Ghosts D) (before now : D) : Type 0 where
  pub mid : D
  pub same : IsSameDevice g before mid
  pub refused : IsSameDevice g mid now
  pub fault : HasRisen (g.fault_count mid) (g.fault_count now)
  pub spent : g.is_spent now

-- so it is where a device was given up, or a sync failed
abbrev pub IfGivenUp : {A D T : Type 0} → Ghosts D → Result T FlushRefusal → Flights A → (before now : D) → Type 0
IfGivenUp g (Ok done) flights before now = Unit {0}
IfGivenUp g (Err (flush.DeviceGaveUp block)) flights before now = HasRefusedHeld g block (held_by flights) before now
IfGivenUp g (Err flush.SyncFailed) flights before now = HasNotSynced g before now
IfGivenUp g (Err flush.OutOfMemory) flights before now = Unit {0}

-- And so it is of what was done before and that.
pub refused_later : {A D : Type 0} (g : Ghosts D) (block : ℕ) (held : List (Flight A)) (old before now : D) → IsSameDevice g old before
    → HasRefusedHeld g block held before now → HasRefusedHeld g block held old now
refused_later g block held old before now same told = record {
  flight = told.flight;
  inside = told.inside;
  of = told.of;
  refused = record { mid = told.refused.mid; same = same_both g old before told.refused.mid same told.refused.same; tries = told.refused.tries };
}

pub unsynced_later : {D : Type 0} (g : Ghosts D) (old before now : D) → IsSameDevice g old before → HasNotSynced g before now → HasNotSynced g old now
unsynced_later g old before now same told = record {
  mid = told.mid;
  same = same_both g old before told.mid same told.same;
  refused = told.refused;
  fault = told.fault;
  spent = told.spent;
}

pub given_up_later : {A D T : Type 0} (g : Ghosts D) (result : Result T FlushRefusal) (flights : Flights A) (old before now : D) → IsSameDevice g old before
    → IfGivenUp g result flights before now → IfGivenUp g result flights old now
given_up_later g (Ok done) flights old before now same told = tt
given_up_later g (Err (flush.DeviceGaveUp block)) flights old before now same told = refused_later g block (held_by flights) old before now same told
given_up_later g (Err flush.SyncFailed) flights old before now same told = unsynced_later g old before now same told
given_up_later g (Err flush.OutOfMemory) flights old before now same told = tt
