use Rattle.std.proofs.Common.{subst, sym}
use Rattle.patch_graph.specs.State.{Graph}
use Rattle.patch_graph.specs.Meaning.{IsGraphOf}
use Rattle.patch_graph.proofs.Reaching.{lacks-key}
use Rattle.patch_graph.proofs.graphs.Graph.reaches.Goals as goal

pub returns-clause-answer : goal.returns-clause-answer
returns-clause-answer g c all x y r la lb = c.reaches.ensures.answer all x y (subst (λ (x : Graph). IsGraphOf x all) (sym c.self.view_is) r) la lb

pub returns-clause-absent : goal.returns-clause-absent
returns-clause-absent g c all r off = c.reaches.ensures.absent (lacks-key _ all c.args.a c.args.b (subst (λ (x : Graph). IsGraphOf x all) (sym c.self.view_is) r) off)
