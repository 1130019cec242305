use Rattle.std.proofs.Common.{refl}
use Rattle.patch_frame.specs.Field.{zeros}
use Rattle.patch_recovery.proofs.rows.bad_records.Goals as goal

pub returns-clause-index_as_pointers : goal.returns-clause-index_as_pointers
unfolding zeros
returns-clause-index_as_pointers c = refl

pub returns-clause-frame_as_pointers : goal.returns-clause-frame_as_pointers
unfolding zeros
returns-clause-frame_as_pointers c = refl

pub returns-clause-frame_as_index : goal.returns-clause-frame_as_index
unfolding zeros
returns-clause-frame_as_index c = refl

pub returns-clause-no_index : goal.returns-clause-no_index
unfolding zeros
returns-clause-no_index c = refl

pub returns-clause-pointers_left : goal.returns-clause-pointers_left
unfolding zeros
returns-clause-pointers_left c = refl
