use Rattle.patch_history.proofs.Making as making
use Rattle.patch_history.proofs.laws.kept_are_made.Goals as goal

pub returns : goal.returns
returns c = making.kept_are_made
