use Rattle.std.proofs.Common.{subst, sym, arith}
use Rattle.patch_graph.proofs.ReadySet.{mark_answer, mark_not_live}
use Rattle.patch_graph.specs.State.{Graph}
use Rattle.patch_graph.specs.Meaning.{IsGraphOf}
use Rattle.patch_graph.proofs.graphs.Graph.mark_of.Goals as goal

pub returns-in-Some : goal.returns-in-Some
returns-in-Some g c all r = mark_answer _ all c.args.no c.in-Some.key _ (subst (λ (x : Graph). IsGraphOf x all) (sym c.self.view_is) r) (sym c.in-Some.ensures) c.mark_at.ensures

pub returns-in-None : goal.returns-in-None
returns-in-None g c all r = mark_not_live _ all c.args.no (subst (λ (x : Graph). IsGraphOf x all) (sym c.self.view_is) r) (sym c.in-None.ensures) (omega arith)
