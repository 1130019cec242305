use Rattle.std.proofs.Common.{◌+◌, ◌<◌, ◌≤◌}
use Rattle.patch_device.specs.Device.{IsOldOrNew}
use Rattle.patch_device.specs.SameDevice.{IsSameDevice}
use Rattle.patch_cache.specs.Refused.{AreRefused}
use Rattle.patch_cache.specs.Waves.{HasRisenBy, IsTriedSafely}
use Rattle.patch_cache.proofs.landing.write_tried.Given as goal

-- each try so far was refused
abbrev pub invariant-loop : goal.invariant-loop
invariant-loop g l =
    let device = g.D.Device in
    let old = l.fn.device in
    record {
      same : IsSameDevice device old l.device;
      cause : l.flight.block < device.block_count old → HasRisenBy l.counter (device.fault_count old) (device.fault_count l.device);
      refused : l.flight.block < device.block_count old → AreRefused device l.flight.block l.flight.image l.counter old l.device;
      either : device.is_honest old → IsOldOrNew (device.contents old) l.flight.block l.flight.image (device.contents l.device);
      tries : device.moment l.device ≤ device.moment old + l.counter;
      crash : device.is_honest old → IsTriedSafely device l.flight old l.device;
    }
