use Rattle.std.proofs.Common.{refl}
use Rattle.patch_frame.specs.Field.{zeros}
use Rattle.patch_history.proofs.rows.what_left_an_extent.Goals as goal

pub returns-clause-left : goal.returns-clause-left
unfolding zeros
returns-clause-left c = refl

pub returns-clause-none : goal.returns-clause-none
unfolding zeros
returns-clause-none c = refl

pub returns-clause-deleted : goal.returns-clause-deleted
unfolding zeros
returns-clause-deleted c = refl
