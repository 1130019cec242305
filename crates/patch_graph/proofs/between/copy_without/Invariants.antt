use Rattle.patch_graph.proofs.LeastBetween.{IsPartWithout}
use Rattle.patch_graph.proofs.between.copy_without.Given as goal

abbrev pub invariant-loop-key : goal.invariant-loop-key
invariant-loop-key l = IsPartWithout l.to l.marks l.keys l.initial.dead_ends l.dead_ends l.key-index
