use Rattle.patch_testing.specs.Heaps.{ArePieces}
use Rattle.patch_testing.proofs.heaps.take_pieces.Given as goal

abbrev pub invariant-loop : goal.invariant-loop
invariant-loop l = ArePieces l.fn.ballast.items → ArePieces l.ballast.items
