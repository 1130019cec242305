use Rattle.std.proofs.Common.{sym, subst}
use Rattle.std.proofs.lemmas.Result.{on_ok_weaker}
use Rattle.patch_plans.specs.Groups.{Groups}
use Rattle.patch_plans.specs.Order.{AreGroupsOf}
use Rattle.patch_engine.proofs.Standing.{regrouped}
use Rattle.patch_engine.proofs.engines.Engine.engage.Goals as goal

pub returns-clause-stands : goal.returns-clause-stands
returns-clause-stands g c = λ run at.
    let old = c.args.self.now.groups in
    on_ok_weaker c.engage.result
    (λ h. regrouped c.args.self.now c.engage.new.self run at
    (subst (λ (gs : Groups). AreGroupsOf run gs) (sym h.1) (c.order_is_kept.ensures.calls.engaged run old c.args.writer c.args.group at.groups_are h.0)))
    c.engage.ensures.done
