use Rattle.patch_history.proofs.Names as names
use Rattle.patch_history.proofs.laws.kept_are_named.Goals as goal

pub returns : goal.returns
returns c = names.kept_are_named
