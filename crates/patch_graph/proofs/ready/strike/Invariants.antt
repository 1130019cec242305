use Rattle.patch_graph.proofs.Settling.{IsPartRound}
use Rattle.patch_graph.proofs.ready.strike.Given as goal

abbrev pub invariant-loop-key : goal.invariant-loop-key
invariant-loop-key g l = IsPartRound l.register.slots l.register.numbers l.keys l.initial.marks l.marks l.changed l.key-index
