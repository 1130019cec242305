use Rattle.patch_graph.proofs.Settling.{IsPartCleared}
use Rattle.patch_graph.proofs.marks.clear.Given as goal

abbrev pub invariant-loop-key : goal.invariant-loop-key
invariant-loop-key l = IsPartCleared l.keys l.initial.marks l.marks l.key-index
