use Rattle.std.proofs.Common.{Bool, not, subst}
use Rattle.patch_images.specs.Images.{StaysIf}
use Rattle.patch_stacks.proofs.Laying.{stays_both}
use Rattle.patch_stacks.proofs.changes.know_laid.Goals as goal

pub returns-clause-image : goal.returns-clause-image
returns-clause-image g c =
    subst (λ (b : Bool). StaysIf (not b) c.args.image.now c.forget_unless.new.image) c.is_hard.ensures
    (stays_both (not c.is_hard.result) c.args.image.now c.make_room.new.image c.forget_unless.new.image c.make_room.ensures c.forget_unless.ensures)
