use Rattle.std.proofs.Common.{subst, sym, arith}
use Rattle.patch_graph.proofs.ReadySet.{mark_not_live}
use Rattle.patch_graph.specs.State.{Graph}
use Rattle.patch_graph.specs.Meaning.{IsGraphOf}
use Rattle.patch_graph.proofs.graphs.Graph.durable_below.Goals as goal

pub returns : goal.returns
returns g c all r n below =
    let least = c.min.ensures in
    mark_not_live _ all n (subst (λ (x : Graph). IsGraphOf x all) (sym c.self.view_is) r) (c.lowest.ensures n (omega (arith, least, below))) (omega (arith, least, below, c.made.ensures))
