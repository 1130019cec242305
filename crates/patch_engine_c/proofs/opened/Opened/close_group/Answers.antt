use Rattle.patch_plans.specs.Groups.{why_not_closed, closed}
use Rattle.patch_engine_c.proofs.Telling.{regrouped_so}
use Rattle.std.specs.Prelude.{◌≡◌, Some}
use Rattle.patch_engine_c.proofs.opened.Opened.close_group.Goals as goal

pub returns : goal.returns
returns c =
    regrouped_so (λ cause. why_not_closed c.args.self.now.engine.groups c.args.group ≡ Some cause) (why_not_closed c.args.self.now.engine.groups c.args.group) (closed c.args.self.now.engine.groups c.args.group) c.args.self.now.engine c.close_group.new.self c.close_group.result c.told.result
    c.told.ensures c.close_group.ensures.done c.close_group.ensures.stands c.close_group.ensures.cause c.close_group.ensures.rest c.close_group.ensures.refused
