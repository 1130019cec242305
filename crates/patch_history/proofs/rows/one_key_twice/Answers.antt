use Rattle.std.proofs.Common.{refl}
use Rattle.patch_frame.specs.Field.{zeros}
use Rattle.patch_history.proofs.rows.one_key_twice.Goals as goal

pub returns-clause-replies : goal.returns-clause-replies
unfolding zeros
returns-clause-replies c = refl

pub returns-clause-extents : goal.returns-clause-extents
unfolding zeros
returns-clause-extents c = refl

pub returns-clause-entries : goal.returns-clause-entries
unfolding zeros
returns-clause-entries c = refl
