use Rattle.patch_model.proofs.Staying as staying
use Rattle.patch_model.proofs.laws.writes_end.Goals as goal

pub returns : goal.returns
returns c = staying.write_ends
