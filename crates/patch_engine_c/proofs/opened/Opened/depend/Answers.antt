use Rattle.patch_plans.specs.Groups.{why_not_ordered, ordered}
use Rattle.patch_engine_c.proofs.Telling.{regrouped_so}
use Rattle.patch_cache.specs.Refusals.{IsCause}
use Rattle.patch_engine_c.proofs.opened.Opened.depend.Goals as goal

pub returns : goal.returns
returns c =
    regrouped_so (IsCause (why_not_ordered c.args.self.now.engine.groups c.args.later c.args.earlier)) (why_not_ordered c.args.self.now.engine.groups c.args.later c.args.earlier) (ordered c.args.self.now.engine.groups c.args.later c.args.earlier) c.args.self.now.engine c.depend.new.self c.depend.result c.told.result
    c.told.ensures c.depend.ensures.done c.depend.ensures.stands c.depend.ensures.cause c.depend.ensures.rest c.depend.ensures.refused
