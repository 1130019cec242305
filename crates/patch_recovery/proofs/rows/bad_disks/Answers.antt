use Rattle.std.proofs.Common.{refl}
use Rattle.patch_frame.specs.Field.{zeros}
use Rattle.patch_recovery.proofs.rows.bad_disks.Goals as goal

pub returns-clause-no_super : goal.returns-clause-no_super
unfolding zeros
returns-clause-no_super c = refl

pub returns-clause-super_elsewhere : goal.returns-clause-super_elsewhere
unfolding zeros
returns-clause-super_elsewhere c = refl

pub returns-clause-short : goal.returns-clause-short
unfolding zeros
returns-clause-short c = refl

pub returns-clause-no_block : goal.returns-clause-no_block
unfolding zeros
returns-clause-no_block c = refl
