use Rattle.patch_graph.proofs.graphs.Graph.mark_flight.Goals as goal

pub invariant_of-self : goal.invariant_of-self
invariant_of-self g c = c.fly.ensures.fit c.self.inside.scratch c.self.invariant
