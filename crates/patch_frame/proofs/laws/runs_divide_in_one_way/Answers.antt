use Rattle.patch_frame.proofs.RunFrames.{one_run}
use Rattle.patch_frame.proofs.laws.runs_divide_in_one_way.Goals as goal

pub returns : goal.returns
returns c = λ limit a b small fa fb e. one_run limit a b small fa fb e
