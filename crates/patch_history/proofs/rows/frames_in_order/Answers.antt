use Rattle.std.proofs.Common.{refl}
use Rattle.patch_frame.specs.Field.{zeros}
use Rattle.patch_history.proofs.rows.frames_in_order.Goals as goal

pub returns : goal.returns
unfolding zeros
returns c = record { slots = refl }
