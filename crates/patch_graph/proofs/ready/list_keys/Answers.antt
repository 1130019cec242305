use Rattle.std.proofs.Common.{arith}
use Rattle.patch_graph.proofs.Settling.{listed-none, listed-one}
use Rattle.patch_graph.proofs.ready.list_keys.Goals as goal

pub loop-key-init : goal.loop-key-init
loop-key-init c = listed-none _

pub loop-key-preserved : goal.loop-key-preserved
loop-key-preserved c = listed-one _ _ _ (omega arith) c.loop-key.invariant

pub returns-clause-keys : goal.returns-clause-keys
returns-clause-keys c key h = c.loop-key.invariant.done key (omega arith)
