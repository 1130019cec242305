use Rattle.std.proofs.Common.{refl}
use Rattle.patch_frame.specs.Field.{zeros}
use Rattle.patch_recovery.proofs.rows.one_key.Goals as goal

pub returns-clause-one : goal.returns-clause-one
unfolding zeros
returns-clause-one c = refl

pub returns-clause-two : goal.returns-clause-two
unfolding zeros
returns-clause-two c = refl

pub returns-clause-pointers : goal.returns-clause-pointers
unfolding zeros
returns-clause-pointers c = refl
