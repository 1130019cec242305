use Rattle.std.proofs.Common.{subst}
use Rattle.patch_model.specs.Names.{numbers_named}
use Rattle.patch_stacks.specs.State.{Block}
use Rattle.patch_stacks.proofs.Outcomes.{done-then}
use Rattle.patch_view.specs.Changes.{Lays}
use Rattle.patch_view.proofs.Newest.{laid_represents}
use Rattle.patch_view.proofs.states.BlockState.lay_if.Goals as goal

pub returns-clause-answer : goal.returns-clause-answer
returns-clause-answer g c =
    subst (λ (b : Block). Lays b c.args.no c.args.start c.args.bytes.now (numbers_named c.args.after) c.args.hard c.lay_if.result c.lay_if.new.self) c.self.view_is (λ h block undo r next.
    done-then c.lay_if.result _ _ (λ laid.
    laid_represents c.self.inside.stack c.lay_if.new.self h c.args.no block c.args.start c.args.bytes.now (numbers_named c.args.after) undo c.args.hard laid r next) c.lay_if.ensures.laid)
