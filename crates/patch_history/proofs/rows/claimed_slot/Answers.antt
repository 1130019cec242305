use Rattle.std.proofs.Common.{refl}
use Rattle.patch_frame.specs.Field.{zeros}
use Rattle.patch_history.proofs.rows.claimed_slot.Goals as goal

pub returns-clause-names : goal.returns-clause-names
unfolding zeros
returns-clause-names c = refl

pub returns-clause-extents : goal.returns-clause-extents
unfolding zeros
returns-clause-extents c = refl
