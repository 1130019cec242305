use Rattle.patch_images.specs.Images.{IsAloneBelow}
use Rattle.patch_images.proofs.gaps.are_others_elsewhere.Given as goal

abbrev pub invariant-loop-other : goal.invariant-loop-other
invariant-loop-other g l = IsAloneBelow l.classes l.at l.other
