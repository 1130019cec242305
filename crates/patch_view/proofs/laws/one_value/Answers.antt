use Rattle.patch_view.proofs.Same as proofs
use Rattle.patch_view.proofs.laws.one_value.Goals as goal

pub returns : goal.returns
returns c = proofs.one_value
