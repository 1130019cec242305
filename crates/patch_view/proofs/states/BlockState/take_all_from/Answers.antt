use Rattle.std.proofs.Common.{◌∙◌, subst}
use Rattle.patch_stacks.specs.State.{Block}
use Rattle.patch_view.specs.Answers.{ShowsTaken}
use Rattle.patch_view.proofs.Sweeping.{all_swept}
use Rattle.patch_view.proofs.states.BlockState.take_all_from.Goals as goal

pub returns-clause-answer : goal.returns-clause-answer
returns-clause-answer g c =
    subst (λ (b : Block). ShowsTaken b c.take_all_from.new.copy) c.self.view_is
    (λ h taken r holds. c.take_all_from.ensures.exact ∙ (all_swept c.self.inside.stack taken h r holds).bytes)
