use Rattle.std.proofs.Common.{◌≡◌, ap, sym, ◌∙◌, length, arith, refl, [], subst}
use Rattle.patch_stacks.specs.State.{Block, outline}
use Rattle.patch_stacks.proofs.Outlines.{outline-restored_to}
use Rattle.patch_view.specs.Answers.{PutsAllBack, IsAsBefore}
use Rattle.patch_view.proofs.Restoring.{all_restored}
use Rattle.patch_view.proofs.Same.{one_value}
use Rattle.patch_view.proofs.states.BlockState.put_all_back.Goals as goal

pub returns-clause-answer : goal.returns-clause-answer
returns-clause-answer g c =
    subst (λ (b : Block). PutsAllBack b c.put_all_back.new.self) c.self.view_is (λ h taken r.
    let e = c.put_all_back.ensures in rw e (all_restored c.self.inside.stack taken h r))

pub returns-clause-outline : goal.returns-clause-outline
returns-clause-outline g c =
    subst (λ (b : Block). outline c.put_all_back.new.self ≡ outline b) c.self.view_is
    (ap outline c.put_all_back.ensures ∙ outline-restored_to (length c.self.inside.stack.classes) c.self.inside.stack (omega arith))

pub returns-clause-as_before : goal.returns-clause-as_before
returns-clause-as_before g c =
    subst (λ (b : Block). IsAsBefore b c.put_all_back.new.self) c.self.view_is (λ h taken before r s is.
    let e = c.put_all_back.ensures in
    rw e (one_value h [] [] _ before (all_restored c.self.inside.stack taken h r) s (λ n. refl)
    (outline-restored_to (length c.self.inside.stack.classes) c.self.inside.stack (omega arith) ∙ sym is)))
