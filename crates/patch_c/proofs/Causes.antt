-- Why a flush was refused.
use Rattle.std.proofs.Common.{◌≡◌, ℕ, ◌≤◌, inl, inr, arith}
use Rattle.std.specs.Prelude.{Err, nat_lt}
use Rattle.std.proofs.lemmas.Bool.{cases_Bool}
use Rattle.std.proofs.lemmas.Bool.Decides.{nat_tests}
use Rattle.patch_model.specs.declared.refusals.RefusalKind.{RefusalKind}
use Rattle.patch_device.specs.Device.{HasRisen}
use Rattle.patch_cache.specs.Refusals.{flush_cause}
use Rattle.patch_cache.specs.Waves.{HasGivenUp, RisesIfGivenUp}
use Rattle.patch_cache.specs.declared.refusals.FlushRefusal.{FlushRefusal}
use Rattle.patch_cache.specs.declared.refusals.FlushRefusal.TheVariants as flush
use Rattle.patch_handles.specs.declared.answers.Answer.TheVariants.{Refused}
use Rattle.patch_c.specs.Saving.{HasCause}

-- a write that was given up was refused at least once
given_up : (faults now : ℕ) → HasGivenUp faults now → faults ≤ now → HasRisen faults now
given_up faults now (inl risen) low = inl (omega (arith, risen))
given_up faults now (inr top) low = elim (cases_Bool (nat_lt faults now)) [
  | inl u ↦ inl (grind (arith, nat_tests))
  | inr u ↦
      let none : now ≤ faults = grind (arith, nat_tests) in
      inr (omega (arith, none, low, top), top)
]

pub refused_so : (refusal : FlushRefusal) (why : RefusalKind) (faults now : ℕ) → why ≡ (flush_cause refusal).kind
    → RisesIfGivenUp {T = Unit {0}} (Err refusal) faults now → faults ≤ now → HasCause (Refused why) faults now
refused_so (flush.DeviceGaveUp block) why faults now is rises low = inr (inl is, given_up faults now rises low)
refused_so flush.SyncFailed why faults now is rises low = inr (inr is, rises)
refused_so flush.OutOfMemory why faults now is rises low = inl is
