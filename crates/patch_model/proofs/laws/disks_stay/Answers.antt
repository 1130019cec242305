use Rattle.patch_model.proofs.Staying as staying
use Rattle.patch_model.proofs.laws.disks_stay.Goals as goal

pub returns : goal.returns
returns c = staying.disk_stays
