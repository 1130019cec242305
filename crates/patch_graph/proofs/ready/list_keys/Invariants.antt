use Rattle.patch_graph.proofs.Settling.{ArePartListed}
use Rattle.patch_graph.proofs.ready.list_keys.Given as goal

abbrev pub invariant-loop-key : goal.invariant-loop-key
invariant-loop-key = λ l. ArePartListed l.initial.keys l.keys l.key
