use Rattle.std.proofs.Common.{refl}
use Rattle.patch_frame.specs.Field.{zeros}
use Rattle.patch_history.proofs.rows.limits_and_deletes.Goals as goal

pub returns-clause-first : goal.returns-clause-first
unfolding zeros
returns-clause-first c = refl

pub returns-clause-keys : goal.returns-clause-keys
unfolding zeros
returns-clause-keys c = refl

pub returns-clause-values : goal.returns-clause-values
unfolding zeros
returns-clause-values c = refl
