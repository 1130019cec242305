use Rattle.patch_device.specs.SameDevice.{IsSameDevice}
use Rattle.patch_shared.specs.Serving.{StillLasts}
use Rattle.patch_shared.proofs.completing.complete_all.Given as goal

-- it is the same device, and lasts as it stands if it did
abbrev pub invariant-loop : goal.invariant-loop
invariant-loop g l = record {
  same : IsSameDevice g.D.Device l.fn.device l.device;
  lasts : StillLasts g.D.Device l.fn.device l.device;
}
