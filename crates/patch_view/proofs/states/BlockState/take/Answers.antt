use Rattle.std.proofs.Common.{subst}
use Rattle.patch_stacks.specs.State.{Block}
use Rattle.patch_view.specs.Answers.{AnswersTake, AcceptsTake}
use Rattle.patch_view.proofs.Accepting.{take_accepted}
use Rattle.patch_view.proofs.StackAnswers.{take_answers}
use Rattle.patch_view.proofs.states.BlockState.take.Goals as goal

pub returns-clause-answer : goal.returns-clause-answer
returns-clause-answer g c =
    subst (λ (b : Block). AnswersTake b c.args.no c.take.new.self c.take.result) c.self.view_is
    (take_answers c.self.inside.stack c.take.new.self c.args.no c.take.result c.take.ensures.exact)

pub returns-clause-accepted : goal.returns-clause-accepted
returns-clause-accepted g c =
    subst (λ (b : Block). AcceptsTake b c.args.no c.take.result) c.self.view_is (λ h taken r.
    take_accepted c.self.inside.stack c.take.new.self taken h c.args.no c.take.result r
    (take_answers c.self.inside.stack c.take.new.self c.args.no c.take.result c.take.ensures.exact h taken r))
