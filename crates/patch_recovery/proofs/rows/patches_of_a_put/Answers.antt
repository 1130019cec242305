use Rattle.std.proofs.Common.{refl}
use Rattle.patch_frame.specs.Field.{zeros}
use Rattle.patch_recovery.proofs.rows.patches_of_a_put.Goals as goal

pub returns : goal.returns
unfolding zeros
returns c = refl
