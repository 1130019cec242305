use Rattle.patch_links.proofs.Passing.{ArePaid}
use Rattle.patch_links.proofs.admitting.pay_all.Given as goal

abbrev pub invariant-loop-place : goal.invariant-loop-place
invariant-loop-place g l = ArePaid l.block l.from l.keys.numbers l.initial.nodes.slots l.nodes.slots l.initial.list l.list l.place
