-- Which device comes back where writers are not served to the end.
use Rattle.std.proofs.Common.{◌≡◌, ℕ, ◌+◌, ◌≤◌, ◌⊎◌, inl, inr, Option, Some, None, Result, Ok, Err, arith}
use Rattle.std.specs.Prelude.{MatchOption, IfErr}
use Rattle.patch_device.specs.declared.devices.Device.{Ghosts}
use Rattle.patch_device.specs.SameDevice.{IsSameDevice, same_both}
use Rattle.patch_device.specs.Device.{most_faults}
use Rattle.patch_shared.specs.declared.faults.Cause.{Cause}
use Rattle.patch_shared.specs.declared.faults.Cause.TheVariants as cause
use Rattle.patch_shared.specs.Serving.{HasNotWritten, HasNotRead, HasGivenUpAt, IsGivenBack}
use Rattle.patch_files.specs.declared.serving.Unserved.{Unserved}
use Rattle.patch_files.specs.Stopping.{IsUnserved}

-- the one that was handed in, also where it was handed on before
still_back : {D : Type 0} (g : Ghosts D) (device mid : D) (back : Option D) → IsSameDevice g device mid → MatchOption back ⊥ (IsSameDevice g mid) → MatchOption back ⊥ (IsSameDevice g device)
still_back g device mid None same told = told
still_back g device mid (Some now) same told = same_both g device mid now same told

pub unserved_over : {T D : Type 0} (g : Ghosts D) (r : Result T (Unserved D)) (device mid : D) → IsSameDevice g device mid → IfErr r (λ u. MatchOption u.device ⊥ (IsSameDevice g mid)) → IfErr r (IsUnserved g device)
unserved_over g (Ok done) device mid same told = tt
unserved_over g (Err u) device mid same told = inr (still_back g device mid u.device same told)

-- what it gave up is told of all that was done with it

more_faults : (n first before now : ℕ) → first ≤ before → (before + n ≤ now) ⊎ (now ≡ most_faults) → (first + n ≤ now) ⊎ (now ≡ most_faults)
more_faults n first before now low (inl up) = inl (omega (arith, low, up))
more_faults n first before now low (inr top) = inr top

unwritten_later : {D : Type 0} (g : Ghosts D) (block : ℕ) (device mid now : D) → IsSameDevice g device mid → HasNotWritten g block mid now → HasNotWritten g block device now
unwritten_later g block device mid now same told = (told.0, record { mid = told.1.mid; same = same_both g device mid told.1.mid same told.1.same; tries = told.1.tries })

unread_later : {D : Type 0} (g : Ghosts D) (device mid now : D) → IsSameDevice g device mid → HasNotRead g mid now → HasNotRead g device now
unread_later g device mid now same told = record { mid = told.mid; same = same_both g device mid told.mid same told.same; tries = told.tries }

given_up_over : {D : Type 0} (g : Ghosts D) (block : ℕ) (device mid now : D) → IsSameDevice g device mid → HasGivenUpAt g block mid now → HasGivenUpAt g block device now
given_up_over g block device mid now same told = record {
  faults = more_faults 8 (g.fault_count device) (g.fault_count mid) (g.fault_count now) same.faults told.faults;
  call = elim told.call [ inl w ↦ inl (unwritten_later g block device mid now same w) | inr r ↦ inr (unread_later g device mid now same r) ];
}

given_over : {D : Type 0} (g : Ghosts D) (device mid : D) (why : Cause) (back : Option D) → IsSameDevice g device mid → IsGivenBack g mid why back → IsGivenBack g device why back
given_over g device mid (cause.DeviceGaveUp block) back same told = (told.0, told.1, same_both g device mid told.0 same told.2, given_up_over g block device mid told.0 same told.3)
given_over g device mid cause.SyncFailed back same told = (
  told.0,
  told.1,
  same_both g device mid told.0 same told.2,
  record {
    mid = told.3.mid;
    same = same_both g device mid told.3.mid same told.3.same;
    refused = told.3.refused;
    fault = told.3.fault;
    spent = told.3.spent;
  },
)
given_over g device mid cause.Disagreed back same told = told
given_over g device mid (cause.ReadBack block) back same told = told
given_over g device mid cause.NoThread back same told = told
given_over g device mid cause.OutOfMemory back same told = told

over : {D : Type 0} (g : Ghosts D) (device mid : D) (u : Unserved D) → IsSameDevice g device mid → IsUnserved g mid u → IsUnserved g device u
over g device mid u same (inl w) = inl (w.0, w.1, given_over g device mid w.0 u.device same w.2)
over g device mid u same (inr told) = inr (still_back g device mid u.device same told)

pub back_over : {T D : Type 0} (g : Ghosts D) (r : Result T (Unserved D)) (device mid : D) → IsSameDevice g device mid → IfErr r (IsUnserved g mid) → IfErr r (IsUnserved g device)
back_over g (Ok done) device mid same told = tt
back_over g (Err u) device mid same told = over g device mid u same told
