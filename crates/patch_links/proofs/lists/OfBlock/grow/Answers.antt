use Rattle.patch_links.proofs.Outcomes.{refused-done}
use Rattle.patch_links.proofs.lists.OfBlock.grow.Goals as goal

pub returns-in_err-make_room-clause-room : goal.returns-in_err-make_room-clause-room
returns-in_err-make_room-clause-room g c = refused-done c.from_residual.result _ c.from_residual.ensures.0
