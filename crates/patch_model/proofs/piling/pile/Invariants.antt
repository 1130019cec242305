use Rattle.std.proofs.Common.{◌≡◌, drop}
use Rattle.patch_model.specs.Pile.{pile as the_pile}
use Rattle.patch_model.proofs.piling.pile.Given as goal

-- the patches still to come, over the block so far, make the pile
abbrev pub invariant-loop-patch : goal.invariant-loop-patch
invariant-loop-patch g l = the_pile l.block (drop l.patch-index l.patches) ≡ the_pile l.first l.patches
