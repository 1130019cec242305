use Rattle.std.proofs.Common.{subst, sym}
use Rattle.patch_graph.proofs.ReadySet.{shown_answer}
use Rattle.patch_graph.specs.State.{Graph}
use Rattle.patch_graph.specs.Meaning.{IsGraphOf}
use Rattle.patch_graph.proofs.graphs.Graph.live_class.Goals as goal

pub returns-in-Some : goal.returns-in-Some
returns-in-Some g c all r = shown_answer _ all c.args.no c.in-Some.key _ (subst (λ (x : Graph). IsGraphOf x all) (sym c.self.view_is) r) (sym c.in-Some.ensures) c.shown_at.ensures
