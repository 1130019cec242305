use Rattle.std.proofs.Common.{arith}
use Rattle.patch_graph.proofs.Naming.{reach-named}
use Rattle.patch_graph.proofs.runs.reach_of_run.Goals as goal

pub returns : goal.returns
returns c n i = let low = i.0 in reach-named c.args.made c.end_of.result c.args.run n c.end_of.ensures (omega (arith, low, c.min.ensures)) i.1
