use Rattle.std.proofs.Common.{subst, sym, ◌∙◌}
use Rattle.patch_graph.specs.State.{Graph}
use Rattle.patch_graph.specs.Meaning.{IsGraphOf}
use Rattle.patch_graph.proofs.Joining.{none-to-join}
use Rattle.patch_graph.proofs.graphs.Graph.merge.Goals as goal

pub invariant_of-self-2 : goal.invariant_of-self-2
invariant_of-self-2 g c = c.merge.ensures.fit c.self.inside.scratch c.self.invariant

pub returns-clause-idle : goal.returns-clause-idle
returns-clause-idle g c all r off = c.merge.ensures.idle (none-to-join c.self.inside.register all c.args.a c.args.b (subst (λ (x : Graph). IsGraphOf x all) (sym c.self.view_is) r) off) ∙ c.self.view_is
