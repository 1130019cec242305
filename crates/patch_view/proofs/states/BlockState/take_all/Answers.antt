use Rattle.std.proofs.Common.{◌≡◌, ap, ◌∙◌, length, arith, subst}
use Rattle.patch_stacks.specs.State.{Block, outline}
use Rattle.patch_stacks.proofs.Outlines.{outline-swept_to}
use Rattle.patch_view.specs.Answers.{TakesAll}
use Rattle.patch_view.proofs.Sweeping.{all_swept}
use Rattle.patch_view.proofs.states.BlockState.take_all.Goals as goal

pub returns-clause-answer : goal.returns-clause-answer
returns-clause-answer g c =
    subst (λ (b : Block). TakesAll b c.take_all.new.self) c.self.view_is (λ h taken r holds.
    let e = c.take_all.ensures in rw e (all_swept c.self.inside.stack taken h r holds))

pub returns-clause-outline : goal.returns-clause-outline
returns-clause-outline g c =
    subst (λ (b : Block). outline c.take_all.new.self ≡ outline b) c.self.view_is
    (ap outline c.take_all.ensures ∙ outline-swept_to (length c.self.inside.stack.classes) c.self.inside.stack (omega arith))
