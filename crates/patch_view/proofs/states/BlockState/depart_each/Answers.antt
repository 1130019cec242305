use Rattle.std.proofs.Common.{subst}
use Rattle.patch_stacks.specs.State.{Block}
use Rattle.patch_view.specs.Changes.{DepartsEach}
use Rattle.patch_view.proofs.Together.{departs_together}
use Rattle.patch_view.proofs.states.BlockState.depart_each.Goals as goal

pub returns-clause-answer : goal.returns-clause-answer
returns-clause-answer g c =
    subst (λ (b : Block). DepartsEach b c.args.numbers.now c.depart_each.new.self) c.self.view_is (λ h set r rising may.
    let is = c.depart_each.ensures.exact rising in rw is (departs_together c.self.inside.stack h c.args.numbers.now set r may))
