use Rattle.std.proofs.Common.{◌+◌, cond}
use Rattle.patch_graph.specs.Marks.{marked_count}
use Rattle.patch_graph.proofs.Settling.{IsSettling}
use Rattle.patch_graph.proofs.ready.settle.Given as goal

abbrev pub invariant-loop-changed : goal.invariant-loop-changed
invariant-loop-changed g l = IsSettling l.register.slots l.register.numbers l.initial.marks l.marks l.changed

abbrev pub decreases-loop-changed : goal.decreases-loop-changed
decreases-loop-changed g l = marked_count l.marks + cond l.changed 1 0
