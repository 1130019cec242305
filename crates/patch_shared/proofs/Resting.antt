-- What the faults of a device are told by, and what lasts on it.
use Rattle.std.proofs.Common.{◌≡◌, ℕ, ◌≤◌, List, Result, Ok, Err, inl, inr, sym, subst, ◌∙◌, arith}
use Rattle.std.specs.Prelude.{IfErr, OnOk, IsErrAnd}
use Rattle.patch_cache.specs.declared.landing.TheConstants.{TRIES}
use Rattle.patch_cache.specs.Waves.{HasGivenUp}
use Rattle.patch_cache.specs.Refused.{AreRefused, unsynced_later}
use Rattle.patch_device.specs.declared.devices.Device.{Ghosts}
use Rattle.patch_device.specs.SameDevice.{IsSameDevice, IsLasting, same_still, same_both}
use Rattle.patch_shared.specs.declared.faults.Cause.{Cause}
use Rattle.patch_shared.specs.declared.faults.Cause.TheVariants as cause
use Rattle.patch_shared.specs.Serving.{AreUnread, HasGivenUpAt, RestsOn, StillLasts, CameTo}

-- What a device refuses.

more : (first before now : ℕ) → first ≤ before → HasGivenUp before now → HasGivenUp first now
more first before now low (inl up) = inl (omega (arith, low, up))
more first before now low (inr top) = inr top

-- the device gave up at a write, or at a read
pub gave_up_written : {D : Type 0} (g : Ghosts D) (block : ℕ) (bytes : List ℕ) (before now : D) → HasGivenUp (g.fault_count before) (g.fault_count now)
    → AreRefused g block bytes TRIES before now → HasGivenUpAt g block before now
gave_up_written g block bytes before now faults tries = record {
  faults = faults;
  call = inl (bytes, record { mid = before; same = same_still g before; tries = tries });
}

pub gave_up_read : {D : Type 0} (g : Ghosts D) (block : ℕ) (before now : D) → HasGivenUp (g.fault_count before) (g.fault_count now)
    → AreUnread g TRIES before now → HasGivenUpAt g block before now
gave_up_read g block before now faults tries = record {
  faults = faults;
  call = inr (record { mid = before; same = same_still g before; tries = tries });
}

-- and it did since an earlier moment too
gave_up_later : {D : Type 0} (g : Ghosts D) (block : ℕ) (old mid now : D) → IsSameDevice g old mid → HasGivenUpAt g block mid now → HasGivenUpAt g block old now
gave_up_later g block old mid now same told = record {
  faults = more (g.fault_count old) (g.fault_count mid) (g.fault_count now) same.faults told.faults;
  call = elim told.call [
    | inl write ↦ inl (write.0, record { mid = write.1.mid; same = same_both g old mid write.1.mid same write.1.same; tries = write.1.tries })
    | inr read ↦ inr (record { mid = read.mid; same = same_both g old mid read.mid same read.same; tries = read.tries })
  ];
}

-- what a cause rests on since some moment it rests on since an earlier one
pub rests_later : {D : Type 0} (g : Ghosts D) (why : Cause) (old mid now : D) → IsSameDevice g old mid → RestsOn g why mid now → RestsOn g why old now
rests_later g (cause.DeviceGaveUp block) old mid now same told = gave_up_later g block old mid now same told
rests_later g cause.SyncFailed old mid now same told = unsynced_later g old mid now same told
rests_later g cause.Disagreed old mid now same told = tt
rests_later g (cause.ReadBack block) old mid now same told = tt
rests_later g cause.NoThread old mid now same told = tt
rests_later g cause.OutOfMemory old mid now same told = tt

-- and so does an answer of that cause
pub fault_later : {T D : Type 0} (g : Ghosts D) (r : Result T Cause) (why : Cause) (old mid now : D) → IsErrAnd r (λ e. e ≡ why) → IsSameDevice g old mid
    → RestsOn g why mid now → IfErr r (λ e. RestsOn g e old now)
fault_later g (Ok done) why old mid now is same told = tt
fault_later g (Err e) why old mid now is same told = subst (λ x. RestsOn g x old now) (sym is) (rests_later g why old mid now same told)

-- what is said of a cause is said of an answer that gives it
pub cause_so : {T : Type 0} (r : Result T Cause) (why : Cause) (P : Cause → Type 0) → IsErrAnd r (λ e. e ≡ why) → P why → IfErr r P
cause_so (Ok done) why P is told = tt
cause_so (Err e) why P is told = subst P (sym is) told

-- What lasts on it.

-- where nothing was done to it but reads, it lasts as it stands if it did
pub lasts_on : {D : Type 0} (g : Ghosts D) (old new : D) → IsSameDevice g old new → g.moment new ≡ g.moment old → g.contents new ≡ g.contents old → IsLasting g old → IsLasting g new
lasts_on g old new same still kept lasts = λ disk left.
    let now : g.left_at new (g.moment old) disk = subst (λ t. g.left_at new t disk) still left in
    lasts disk ((same.time.past (g.moment old) disk (omega arith)).1 now) ∙ sym kept

-- and over some calls and then some more
pub lasts_both : {D : Type 0} (g : Ghosts D) (old mid new : D) → IsSameDevice g old mid → StillLasts g old mid → StillLasts g mid new → StillLasts g old new
lasts_both g old mid new same first second = λ honest lasts. second (same.honesty.0 honest) (first honest lasts)

-- What a batch more came to.
pub came_again : {D : Type 0} (g : Ghosts D) (r : Result (Unit {0}) Cause) (old mid new : D) → IsSameDevice g old mid → (g.is_honest mid → OnOk r (IsLasting g new))
    → IfErr r (λ why. RestsOn g why mid new) → CameTo g r old new
came_again g (Ok done) old mid new same lasts told = λ honest _. lasts (same.honesty.0 honest)
came_again g (Err why) old mid new same lasts told = rests_later g why old mid new same told
