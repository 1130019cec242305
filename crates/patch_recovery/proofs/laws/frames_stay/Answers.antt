use Rattle.patch_recovery.proofs.Staying as staying
use Rattle.patch_recovery.proofs.laws.frames_stay.Goals as goal

pub returns : goal.returns
returns c = staying.frames_stay
