use Rattle.std.proofs.Common.{refl}
use Rattle.patch_frame.specs.Field.{zeros}
use Rattle.patch_history.proofs.rows.moves_of_a_reclaim.Goals as goal

pub returns : goal.returns
unfolding zeros
returns c = record { marks = refl }
