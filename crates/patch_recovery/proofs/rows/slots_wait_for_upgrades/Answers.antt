use Rattle.std.proofs.Common.{refl}
use Rattle.patch_frame.specs.Field.{zeros}
use Rattle.patch_recovery.proofs.rows.slots_wait_for_upgrades.Goals as goal

pub returns-clause-closed : goal.returns-clause-closed
unfolding zeros
returns-clause-closed c = refl

pub returns-clause-refused : goal.returns-clause-refused
unfolding zeros
returns-clause-refused c = refl

pub returns-clause-ordered : goal.returns-clause-ordered
unfolding zeros
returns-clause-ordered c = refl
