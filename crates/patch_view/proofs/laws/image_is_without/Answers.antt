use Rattle.patch_view.proofs.Leaving.{send_leaves_the_image}
use Rattle.patch_view.proofs.Same as proofs
use Rattle.patch_view.proofs.laws.image_is_without.Goals as goal

pub returns-clause-image : goal.returns-clause-image
returns-clause-image c = proofs.image_is_without

pub returns-clause-send : goal.returns-clause-send
returns-clause-send c = send_leaves_the_image c.steps_change_blocks.ensures.sent
