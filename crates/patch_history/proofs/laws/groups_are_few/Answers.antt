use Rattle.patch_history.proofs.Limiting as limiting
use Rattle.patch_history.proofs.laws.groups_are_few.Goals as goal

pub returns : goal.returns
returns c = limiting.groups_are_few
