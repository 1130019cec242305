use Rattle.std.proofs.Common.{sym, subst}
use Rattle.patch_shared.specs.Serving.{IsGivenBack}
use Rattle.patch_shared.proofs.serving.sum_up.Goals as goal

pub returns-in-Some-clause-fault : goal.returns-in-Some-clause-fault
returns-in-Some-clause-fault g c = λ first same rises.
    subst (λ why. IsGivenBack g.D.Device first why c.with_device.result.device) (sym c.with_device.ensures.cause)
    (c.with_device.ensures.back first same (c.in-Some.ensures.cause first _ rises))
