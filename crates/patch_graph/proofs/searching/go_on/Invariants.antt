use Rattle.std.proofs.Common.{◌-◌, length}
use Rattle.patch_graph.specs.Search.{IsSearch, steps}
use Rattle.patch_graph.proofs.searching.go_on.Given as goal

abbrev pub invariant-loop-head : goal.invariant-loop-head
invariant-loop-head g l = IsSearch (steps l.register.slots l.register.numbers l.way) l.course.from l.stop l.marks l.queue l.head l.tail

abbrev pub decreases-loop-head : goal.decreases-loop-head
decreases-loop-head g l = length l.initial.queue - l.head
