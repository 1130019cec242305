use Rattle.std.proofs.Common.{refl, ◌++◌}
use Rattle.patch_frame.specs.Frame.{spelling}
use Rattle.patch_frame.proofs.FrameFields.{frame_again, length-spelling}
use Rattle.patch_frame.proofs.laws.frames_are_read_again.Goals as goal

pub returns-clause-read : goal.returns-clause-read
returns-clause-read c = λ limit c' rest small fits. frame_again limit (spelling c' ++ rest) c' rest small fits refl

pub returns-clause-length : goal.returns-clause-length
returns-clause-length c = λ c'. length-spelling c'
