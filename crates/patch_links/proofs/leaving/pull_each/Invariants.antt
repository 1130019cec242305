use Rattle.std.proofs.Common.{length}
use Rattle.patch_links.proofs.Withdrawals.{ArePulledEach}
use Rattle.patch_links.proofs.leaving.pull_each.Given as goal

abbrev pub invariant-loop-key : goal.invariant-loop-key
invariant-loop-key g l = ArePulledEach l.block l.keys.numbers l.initial.nodes.slots l.nodes.slots l.initial.list l.list

abbrev pub decreases-loop-key : goal.decreases-loop-key
decreases-loop-key g l = length l.list.ready
