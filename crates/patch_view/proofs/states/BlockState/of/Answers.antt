use Rattle.std.proofs.Common.{[], sym, subst}
use Rattle.patch_stacks.specs.State.{Block}
use Rattle.patch_view.specs.History.{unpatched}
use Rattle.patch_view.specs.Meaning.{IsBlockOf}
use Rattle.patch_view.proofs.Restoring.{opens}
use Rattle.patch_view.proofs.states.BlockState.of.Goals as goal

pub returns : goal.returns
returns g c = subst (λ (b : Block). IsBlockOf b [] (unpatched c.args.first)) (sym c.of.ensures.empty) (opens c.args.first c.of.ensures.length)
