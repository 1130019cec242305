use Rattle.patch_graph.specs.Between.{lies, IsLeastOf}
use Rattle.patch_graph.proofs.between.least_name.Given as goal

abbrev pub invariant-loop-key : goal.invariant-loop-key
invariant-loop-key g l = IsLeastOf l.register.slots (lies l.marks l.dead_ends l.from l.to) l.keys l.key-index l.least
