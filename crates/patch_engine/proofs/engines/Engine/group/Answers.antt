use Rattle.std.proofs.Common.{sym, subst}
use Rattle.patch_plans.specs.Groups.{Groups}
use Rattle.patch_plans.specs.Order.{AreGroupsOf}
use Rattle.patch_group.proofs.Outcomes.{done-from}
use Rattle.patch_engine.proofs.Standing.{regrouped}
use Rattle.patch_engine.proofs.engines.Engine.group.Goals as goal

pub returns-clause-stands : goal.returns-clause-stands
returns-clause-stands g c = λ run at.
    let old = c.args.self.now.groups in
    done-from c.create.result _ _
    (λ no h. regrouped c.args.self.now c.create.new.self run at
    (subst (λ (gs : Groups). AreGroupsOf run gs) (sym h.2) (c.order_is_kept.ensures.calls.begun run old at.groups_are)))
    c.create.ensures.made
