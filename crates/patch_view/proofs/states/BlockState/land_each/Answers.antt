use Rattle.std.proofs.Common.{[], sym, subst}
use Rattle.patch_stacks.specs.State.{Block}
use Rattle.patch_view.specs.Meaning.{IsBlockOf}
use Rattle.patch_view.proofs.Together.{lands_together}
use Rattle.patch_view.proofs.states.BlockState.land_each.Goals as goal

pub returns-clause-answer : goal.returns-clause-answer
returns-clause-answer g c h block r o =
    let is = c.land_each.ensures in
    rw is (lands_together c.self.inside.stack h block (subst (λ (b : Block). IsBlockOf b [] h) (sym c.self.view_is) r) o)
