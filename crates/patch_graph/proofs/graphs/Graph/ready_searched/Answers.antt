use Rattle.patch_graph.proofs.Places.{ok-if}
use Rattle.patch_graph.proofs.graphs.Graph.ready_searched.Goals as goal

pub returns-in_err-numbers-clause-answer : goal.returns-in_err-numbers-clause-answer
returns-in_err-numbers-clause-answer g c = ok-if _ _ c.from_residual.ensures.0
