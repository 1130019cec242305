use Rattle.patch_device.specs.SameDevice.{IsSameDevice}
use Rattle.patch_shared.proofs.completing.write_waiting.Given as goal

-- it is the same device
abbrev pub invariant-loop : goal.invariant-loop
invariant-loop g l = IsSameDevice g.D.Device l.fn.device l.device
