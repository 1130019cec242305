use Rattle.patch_graph.proofs.Beginning.{begins, fits-nothing}
use Rattle.patch_graph.proofs.graphs.Graph.new.Goals as goal

pub returns : goal.returns
returns g c = rw c.new.ensures begins

pub invariant_of-result : goal.invariant_of-result
invariant_of-result g c = rw (c.new.ensures, c.new-2.ensures) fits-nothing
