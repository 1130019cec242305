use Rattle.patch_plans.specs.Joining.{joined}
use Rattle.patch_plans.proofs.laws.plans_join.Goals as goal

pub returns : goal.returns
returns c s gs w n p q cs ds h = joined s gs w n p q cs ds h
