use Rattle.patch_frame.proofs.PointerFields.{pointer_again}
use Rattle.patch_frame.proofs.laws.pointers_are_read_again.Goals as goal

pub returns : goal.returns
returns c = λ largest p small fits. pointer_again largest p small fits
