use Rattle.std.proofs.Common.{subst}
use Rattle.patch_stacks.specs.State.{Block}
use Rattle.patch_view.specs.Changes.{JoinsBy}
use Rattle.patch_view.proofs.StackAnswers.{joins_by}
use Rattle.patch_view.proofs.states.BlockState.join_by.Goals as goal

pub returns-clause-answer : goal.returns-clause-answer
returns-clause-answer g c =
    subst (λ (b : Block). JoinsBy b c.args.joint c.join_by.new.self) c.self.view_is
    (joins_by c.self.inside.stack c.join_by.new.self c.args.joint c.join_by.ensures.joined)
