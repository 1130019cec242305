use Rattle.std.proofs.Common.{subst, sym}
use Rattle.patch_graph.specs.State.{Graph}
use Rattle.patch_graph.specs.Meaning.{IsGraphOf}
use Rattle.patch_graph.proofs.Places.{ok-if}
use Rattle.patch_graph.proofs.graphs.Graph.ready.Goals as goal

pub returns : goal.returns
returns g c all r ring = c.in_ok-numbers.ensures all (subst (λ (x : Graph). IsGraphOf x all) (sym c.self.view_is) r) ring

pub returns-in_err-numbers : goal.returns-in_err-numbers
returns-in_err-numbers g c = ok-if _ _ c.from_residual.ensures.0
