use Rattle.std.proofs.Common.{◌∙◌, sym, [], append-nil}
use Rattle.patch_frame.specs.Frame.{spelling}
use Rattle.patch_frame.proofs.RunFrames.{one_front}
use Rattle.patch_frame.proofs.laws.no_frame_begins_another.Goals as goal

pub returns : goal.returns
returns c = λ limit a b rest small fa fb e.
    let front = one_front limit a b rest [] small fa fb (sym e ∙ sym (append-nil (spelling b))) in
    (front.1, front.0)
