use Rattle.std.proofs.Common.{[], sym, subst}
use Rattle.patch_stacks.specs.State.{Block}
use Rattle.patch_view.specs.Meaning.{IsBlockOf}
use Rattle.patch_view.proofs.StackAnswers.{departs_one}
use Rattle.patch_view.proofs.states.BlockState.depart.Goals as goal

pub returns-clause-answer : goal.returns-clause-answer
returns-clause-answer g c h e r p m =
    let is = c.depart.ensures in
    rw is (departs_one c.self.inside.stack h c.args.no e (subst (λ (b : Block). IsBlockOf b [] h) (sym c.self.view_is) r) p m)
