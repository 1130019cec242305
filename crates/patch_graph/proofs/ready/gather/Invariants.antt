use Rattle.std.proofs.Common.{◌≡◌, ◌++◌, drop}
use Rattle.patch_graph.specs.Ready.{gathered}
use Rattle.patch_graph.proofs.ready.gather.Given as goal

abbrev pub invariant-loop-key : goal.invariant-loop-key
invariant-loop-key g l = l.all.items ++ gathered l.register.slots l.marks (drop l.key-index l.keys) ≡ gathered l.register.slots l.marks l.keys
