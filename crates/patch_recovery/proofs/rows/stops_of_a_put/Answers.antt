use Rattle.std.proofs.Common.{refl}
use Rattle.patch_frame.specs.Field.{zeros}
use Rattle.patch_recovery.proofs.rows.stops_of_a_put.Goals as goal

pub returns-clause-closed : goal.returns-clause-closed
unfolding zeros
returns-clause-closed c = refl

pub returns-clause-nothing : goal.returns-clause-nothing
unfolding zeros
returns-clause-nothing c = refl

pub returns-clause-bytes : goal.returns-clause-bytes
unfolding zeros
returns-clause-bytes c = refl

pub returns-clause-pointer : goal.returns-clause-pointer
unfolding zeros
returns-clause-pointer c = refl

pub returns-clause-slot : goal.returns-clause-slot
unfolding zeros
returns-clause-slot c = refl

pub returns-clause-slot_alone : goal.returns-clause-slot_alone
unfolding zeros
returns-clause-slot_alone c = refl
