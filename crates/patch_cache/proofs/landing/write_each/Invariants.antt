use Rattle.std.proofs.Common.{◌≡◌, ◌+◌, ◌*◌, ◌≤◌, take}
use Rattle.patch_device.specs.SameDevice.{IsSameDevice}
use Rattle.patch_cache.specs.Waves.{AreTriedSafely, with_flights}
use Rattle.patch_cache.specs.Tries.{AreTried}
use Rattle.patch_cache.specs.declared.landing.TheConstants.{TRIES}
use Rattle.patch_cache.proofs.landing.write_each.Given as goal

-- those so far were written
abbrev pub invariant-loop-flight : goal.invariant-loop-flight
invariant-loop-flight g l =
    let device = g.D.Device in
    let old = l.fn.device in
    record {
      same : IsSameDevice device old l.device;
      tries : device.moment l.device ≤ device.moment old + TRIES * l.flight-index;
      each : AreTried device (take l.flight-index l.held) old l.device;
      written : device.is_honest old → device.contents l.device ≡ with_flights (device.contents old) (take l.flight-index l.held);
      crash : device.is_honest old → AreTriedSafely device l.held old l.device;
    }
