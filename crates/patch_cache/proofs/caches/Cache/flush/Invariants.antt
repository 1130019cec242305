use Rattle.std.proofs.Common.{Bool, ◌≡◌, ◌+◌, ◌*◌, ◌≤◌, [], length}
use Rattle.std.specs.Prelude.{count_by}
use Rattle.patch_model.specs.Execution.{Execution}
use Rattle.patch_device.specs.SameDevice.{IsSameDevice, IsLasting}
use Rattle.patch_cache.specs.Running.{RunsBeside, held_by}
use Rattle.patch_cache.specs.Waves.{is_send, steps_since, Continues, HasGoneOnBeside, KeepsDiskBeside}
use Rattle.patch_cache.specs.Tries.{EachTried, NoneLost}
use Rattle.patch_cache.specs.declared.landing.TheConstants.{TRIES}
use Rattle.patch_cache.proofs.caches.Cache.flush.Given as goal

-- each wave so far began some write
abbrev pub invariant-loop : goal.invariant-loop
invariant-loop g l =
    let device = g.D.Device in
    let old = l.fn.device in
    record {
      ran : (others : Bool) (run : Execution) → RunsBeside others l.fn.self l.fn.flights run → HasGoneOnBeside others run (steps_since l.fn.self l.self) l.self l.flights;
      waves : (others : Bool) (run : Execution) → RunsBeside others l.fn.self l.fn.flights run → l.counter ≤ count_by is_send (steps_since l.fn.self l.self);
      none_lost : (others : Bool) (run : Execution) → RunsBeside others l.fn.self l.fn.flights run → NoneLost (steps_since l.fn.self l.self) l.fn.flights l.flights;
      each : (others : Bool) (run : Execution) → RunsBeside others l.fn.self l.fn.flights run → EachTried device (steps_since l.fn.self l.self) (held_by l.fn.flights) old l.device;
      trace : Continues l.fn.self l.self;
      disk : device.is_honest old → (others : Bool) → KeepsDiskBeside device others l.fn.self l.self l.fn.flights old l.device;
      tries : device.moment l.device ≤ device.moment old + (TRIES + 1) * (length (held_by l.fn.flights) + count_by is_send (steps_since l.fn.self l.self));
      landed : held_by l.flights ≡ [];
      same : IsSameDevice device old l.device;
      lasts : device.is_honest old → IsLasting device old → IsLasting device l.device;
    }
