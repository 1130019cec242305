use Rattle.std.proofs.Common.{◌-◌}
use Rattle.patch_links.proofs.Passing.{AreAdmitted}
use Rattle.patch_links.proofs.admitting.admit_all.Given as goal

abbrev pub invariant-loop-block : goal.invariant-loop-block
invariant-loop-block g l = AreAdmitted l.block l.keys.numbers l.initial.nodes.slots l.nodes.slots l.list

abbrev pub decreases-loop-block : goal.decreases-loop-block
decreases-loop-block g l = l.list.count - l.list.done
