use Rattle.patch_model.proofs.Staying as staying
use Rattle.patch_model.proofs.laws.first_bytes_are_left.Goals as goal

pub returns : goal.returns
returns c = staying.first_left
