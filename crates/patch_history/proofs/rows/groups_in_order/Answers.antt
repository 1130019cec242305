use Rattle.std.proofs.Common.{refl}
use Rattle.patch_frame.specs.Field.{zeros}
use Rattle.patch_history.proofs.rows.groups_in_order.Goals as goal

pub returns-clause-replies : goal.returns-clause-replies
unfolding zeros
returns-clause-replies c = refl

pub returns-clause-names : goal.returns-clause-names
unfolding zeros
returns-clause-names c = refl

pub returns-clause-refused : goal.returns-clause-refused
unfolding zeros
returns-clause-refused c = refl
