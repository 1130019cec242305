use Rattle.std.proofs.Common.{◌≡◌, ◌+◌, ◌*◌, ◌≤◌, [], take, length}
use Rattle.std.specs.Prelude.{count_by}
use Rattle.patch_model.specs.Execution.{Execution, followed_by}
use Rattle.patch_model.specs.State.{entries_of}
use Rattle.patch_device.specs.SameDevice.{IsSameDevice, IsLasting}
use Rattle.patch_cache.specs.Running.{Runs, held_by}
use Rattle.patch_cache.specs.Waves.{is_send, steps_since, Continues, HasGoneOn, KeepsDisk}
use Rattle.patch_cache.specs.Tries.{EachTried}
use Rattle.patch_cache.specs.declared.landing.TheConstants.{TRIES}
use Rattle.patch_plans.specs.Groups.{is_pending}
use Rattle.patch_group.proofs.Steps.{LeadsOn}
use Rattle.patch_group.proofs.syncing.write_all_of.Given as goal

-- each turn so far began a write that was needed, and those passed over are on the disk
abbrev pub invariant-loop : goal.invariant-loop
invariant-loop g l =
    let device = g.D.Device in
    let old = l.fn.device in
    record {
      ran : (run : Execution) → Runs l.fn.cache l.fn.flights run → HasGoneOn run (steps_since l.fn.cache l.cache) l.cache l.flights;
      turns : (run : Execution) → Runs l.fn.cache l.fn.flights run → held_by l.fn.flights ≡ [] → l.counter ≤ count_by is_send (steps_since l.fn.cache l.cache);
      so_far : (run : Execution) → Runs l.fn.cache l.fn.flights run → held_by l.fn.flights ≡ [] → LeadsOn l.waiting run (steps_since l.fn.cache l.cache);
      past : (run : Execution) → Runs l.fn.cache l.fn.flights run → count_by (is_pending (entries_of (followed_by run (steps_since l.fn.cache l.cache)))) (take l.at l.waiting) ≡ 0;
      within : l.at ≤ length l.waiting;
      trace : Continues l.fn.cache l.cache;
      disk : device.is_honest old → KeepsDisk device l.fn.cache l.cache l.fn.flights old l.device;
      each : (run : Execution) → Runs l.fn.cache l.fn.flights run → held_by l.fn.flights ≡ [] → EachTried device (steps_since l.fn.cache l.cache) (held_by l.fn.flights) old l.device;
      tries : held_by l.fn.flights ≡ [] → device.moment l.device ≤ device.moment old + (TRIES + 1) * count_by is_send (steps_since l.fn.cache l.cache);
      landed : held_by l.fn.flights ≡ [] → held_by l.flights ≡ [];
      same : IsSameDevice g.D.Device old l.device;
      lasts : device.is_honest old → IsLasting device old → IsLasting device l.device;
    }
