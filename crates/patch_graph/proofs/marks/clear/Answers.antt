use Rattle.std.proofs.Common.{arith, refl}
use Rattle.patch_graph.proofs.Settling.{cleared-none, cleared-one, cleared-all}
use Rattle.patch_graph.proofs.marks.clear.Goals as goal

pub loop-key-init : goal.loop-key-init
loop-key-init c = cleared-none _ _

pub loop-key-preserved : goal.loop-key-preserved
loop-key-preserved c =
    rw c.take_mark.ensures (cleared-one _ _ _ _ _ refl c.loop-key.invariant)

pub returns-clause-clear : goal.returns-clause-clear
returns-clause-clear c = cleared-all _ _ _ _ (omega arith) c.requires c.loop-key.invariant
