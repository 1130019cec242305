use Rattle.std.proofs.Common.{refl}
use Rattle.patch_graph.proofs.Searches.{begins}
use Rattle.patch_graph.proofs.searching.begin.Goals as goal

pub returns-clause-begun : goal.returns-clause-begun
returns-clause-begun g = (refl, λ goes stop. begins goes g.args.from stop g.args.marks.now g.args.queue.now g.requires.clear g.requires.low g.requires.queue_fits)
