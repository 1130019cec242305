use Rattle.std.proofs.Common.{sym, subst}
use Rattle.patch_device.specs.SameDevice.{IsSameDevice}
use Rattle.patch_shared.proofs.Served.{also, both_if, fault_without}
use Rattle.patch_shared.specs.Serving.{StillLasts}
use Rattle.patch_shared.proofs.serving.run_desk.Goals as goal

pub returns-in-Ok-clause-device : goal.returns-in-Ok-clause-device
returns-in-Ok-clause-device g c = also _ _ c.sum_up.result (λ counted is. subst (IsSameDevice g.D.Device c.args.device) (sym is) c.in-Ok.ensures.device) c.sum_up.ensures.device

pub returns-in-Ok-clause-fault : goal.returns-in-Ok-clause-fault
returns-in-Ok-clause-fault g c = c.sum_up.ensures.fault c.args.device c.in-Ok.ensures.device c.in-Ok.ensures.end

pub returns-in-Ok-clause-lasts : goal.returns-in-Ok-clause-lasts
returns-in-Ok-clause-lasts g c =
    both_if _ _ _ c.sum_up.result (λ counted still is. subst (StillLasts g.D.Device c.args.device) (sym is) still)
    (c.sum_up.ensures.lasts c.args.device c.in-Ok.ensures.end) c.sum_up.ensures.device

pub returns-in-Err-clause-fault : goal.returns-in-Err-clause-fault
returns-in-Err-clause-fault g c =
    fault_without g.D.Device c.args.device c.in-Err.cause c.bare-in-Err.result c.in-Err.ensures.other c.bare-in-Err.ensures.0 c.bare-in-Err.ensures.1
