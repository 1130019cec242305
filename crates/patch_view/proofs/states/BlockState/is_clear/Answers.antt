use Rattle.std.proofs.Common.{◌∙◌, subst}
use Rattle.patch_stacks.specs.State.{Block}
use Rattle.patch_view.specs.Answers.{TellsClear}
use Rattle.patch_view.proofs.Clear.{clear_is_durable}
use Rattle.patch_view.proofs.states.BlockState.is_clear.Goals as goal

pub returns : goal.returns
returns g c = record {
  answer = subst (λ (b : Block). TellsClear b c.is_empty.result) c.self.view_is
      (λ h taken r. c.is_empty.ensures ∙ clear_is_durable c.self.inside.stack taken h r);
}
