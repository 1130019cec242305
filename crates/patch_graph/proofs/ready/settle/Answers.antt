use Rattle.std.proofs.Common.{subst}
use Rattle.patch_graph.proofs.Settling.{settling-none, settling-more, settled, IsSettling}
use Rattle.patch_graph.proofs.ready.settle.Goals as goal

pub loop-changed-init : goal.loop-changed-init
loop-changed-init g c = settling-none _ _ _

pub strike-changed-requires : goal.strike-changed-requires
strike-changed-requires g c key t = c.requires key (c.loop-changed.invariant.inside key t)

pub loop-changed-preserved : goal.loop-changed-preserved
loop-changed-preserved g c = settling-more _ _ _ _ _ _ _ c.loop-changed.invariant c.strike-changed.ensures

pub returns-clause-largest : goal.returns-clause-largest
returns-clause-largest g c = settled _ _ _ _ (subst (λ b. IsSettling c.args.register.now.slots c.args.register.now.numbers c.args.marks.now c.loop-changed.marks b) c.loop-changed-test.false c.loop-changed.invariant)
