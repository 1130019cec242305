use Rattle.std.proofs.Common.{subst}
use Rattle.patch_shared.specs.Serving.{CameTo}
use Rattle.patch_shared.proofs.serving.cause_of.Goals as goal

pub returns-in-Err-clause-cause : goal.returns-in-Err-clause-cause
returns-in-Err-clause-cause g c = λ before now came. subst (λ end. CameTo g.D.Device end before now) c.in-Err.is came
