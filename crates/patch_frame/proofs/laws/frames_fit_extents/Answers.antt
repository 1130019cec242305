use Rattle.patch_frame.proofs.Limits.{fits_extents}
use Rattle.patch_frame.proofs.laws.frames_fit_extents.Goals as goal

pub returns : goal.returns
returns c = λ f c' is fits. fits_extents f c' is fits
