use Rattle.std.proofs.Common.{subst, sym}
use Rattle.patch_graph.proofs.ReadySet.{class_answer, not_live}
use Rattle.patch_graph.specs.State.{Graph}
use Rattle.patch_graph.specs.Meaning.{IsGraphOf}
use Rattle.patch_graph.proofs.graphs.Graph.class_of.Goals as goal

pub returns : goal.returns
returns g c all r = class_answer _ all c.args.no c.in_ok-key.key _ (subst (λ (x : Graph). IsGraphOf x all) (sym c.self.view_is) r) (sym c.in_ok-key.ensures) c.name_at.ensures

pub returns-in_err-key : goal.returns-in_err-key
returns-in_err-key g c all r = rw c.from_residual.ensures (not_live _ all c.args.no (subst (λ (x : Graph). IsGraphOf x all) (sym c.self.view_is) r) (sym c.in_err-key.ensures))
