use Rattle.patch_graph.proofs.Settling.{IsPartPicked}
use Rattle.patch_graph.proofs.ready.pick.Given as goal

abbrev pub invariant-loop-key : goal.invariant-loop-key
invariant-loop-key g l = IsPartPicked l.register.slots l.block l.keys l.initial.marks l.marks l.key-index
