use Rattle.std.proofs.Common.{subst}
use Rattle.patch_stacks.specs.State.{Block}
use Rattle.patch_view.specs.Answers.{AnswersPutBack, AcceptsPutBack}
use Rattle.patch_view.proofs.Accepting.{put_back_accepted}
use Rattle.patch_view.proofs.StackAnswers.{put_back_answers}
use Rattle.patch_view.proofs.states.BlockState.put_back.Goals as goal

pub returns-clause-answer : goal.returns-clause-answer
returns-clause-answer g c =
    subst (λ (b : Block). AnswersPutBack b c.args.no c.put_back.new.self c.put_back.result) c.self.view_is
    (put_back_answers c.self.inside.stack c.put_back.new.self c.args.no c.put_back.result c.put_back.ensures.exact)

pub returns-clause-accepted : goal.returns-clause-accepted
returns-clause-accepted g c =
    subst (λ (b : Block). AcceptsPutBack b c.args.no c.put_back.result) c.self.view_is (λ h taken r.
    put_back_accepted c.self.inside.stack c.put_back.new.self taken h c.args.no c.put_back.result r
    (put_back_answers c.self.inside.stack c.put_back.new.self c.args.no c.put_back.result c.put_back.ensures.exact h taken r))
