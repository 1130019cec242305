use Rattle.std.proofs.Common.{◌≡◌, ◌-◌, length, drop}
use Rattle.patch_images.specs.Images.{bared}
use Rattle.patch_images.proofs.images.uncover_all.Given as goal

abbrev pub invariant-loop-passed : goal.invariant-loop-passed
invariant-loop-passed g l = (l.copy ≡ bared (drop (length l.classes - l.passed) l.classes) l.initial.copy) × (length l.copy ≡ 4096)
