use Rattle.patch_links.proofs.Withdrawals.{ArePulled}
use Rattle.patch_links.proofs.leaving.pull_all.Given as goal

abbrev pub invariant-loop-place : goal.invariant-loop-place
invariant-loop-place g l = ArePulled l.block l.from l.keys.numbers l.initial.nodes.slots l.nodes.slots l.initial.list l.list l.place
