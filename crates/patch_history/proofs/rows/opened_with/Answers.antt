use Rattle.std.proofs.Common.{refl}
use Rattle.patch_frame.specs.Field.{zeros}
use Rattle.patch_history.proofs.rows.opened_with.Goals as goal

pub returns-clause-first : goal.returns-clause-first
unfolding zeros
returns-clause-first c = refl

pub returns-clause-full : goal.returns-clause-full
unfolding zeros
returns-clause-full c = refl

pub returns-clause-none : goal.returns-clause-none
unfolding zeros
returns-clause-none c = refl

pub returns-clause-spent : goal.returns-clause-spent
unfolding zeros
returns-clause-spent c = refl
