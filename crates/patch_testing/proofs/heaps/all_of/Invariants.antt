use Rattle.patch_testing.specs.Heaps.{ArePieces}
use Rattle.patch_testing.proofs.heaps.all_of.Given as goal

abbrev pub invariant-loop-size : goal.invariant-loop-size
invariant-loop-size l = ArePieces l.ballast.items

abbrev pub decreases-loop-size : goal.decreases-loop-size
decreases-loop-size l = l.size
