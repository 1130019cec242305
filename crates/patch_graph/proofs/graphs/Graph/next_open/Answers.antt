use Rattle.std.proofs.Common.{subst, sym}
use Rattle.patch_graph.specs.State.{Graph}
use Rattle.patch_graph.specs.Meaning.{IsGraphOf}
use Rattle.patch_graph.proofs.graphs.Graph.next_open.Goals as goal

pub returns-clause-answer : goal.returns-clause-answer
returns-clause-answer g c all r ring = c.next_open.ensures.answer all (subst (λ (x : Graph). IsGraphOf x all) (sym c.self.view_is) r) ring

pub returns-clause-within : goal.returns-clause-within
returns-clause-within g c = c.next_open.ensures.within
