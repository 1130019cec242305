use Rattle.patch_device.specs.SameDevice.{same_still}
use Rattle.patch_shared.proofs.Resting.{came_again}
use Rattle.patch_shared.proofs.completing.complete_all.Goals as goal

pub loop-init : goal.loop-init
loop-init g c = record {
  same = same_still g.D.Device c.args.device;
  lasts = λ honest lasts. lasts;
}

pub returns-then-is_err-clause-end : goal.returns-then-is_err-clause-end
returns-then-is_err-clause-end g c =
    came_again g.D.Device c.complete_batch-end.result c.args.device c.loop.device c.complete_batch-end.new.device c.loop.invariant.same c.complete_batch-end.ensures.lasts
    c.complete_batch-end.ensures.fault
