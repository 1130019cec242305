use Rattle.patch_view.proofs.Lawful as proofs
use Rattle.patch_view.proofs.laws.uppermost_may_be_taken.Goals as goal

pub returns : goal.returns
returns c = proofs.uppermost_may_be_taken
