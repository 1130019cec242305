use Rattle.std.proofs.Common.{subst, List, ℕ}
use Rattle.patch_links.specs.State.{Links}
use Rattle.patch_links.specs.Ready.{AreReady, IsArranged, gathered}
use Rattle.patch_links.proofs.Arranging.{ok-more}
use Rattle.patch_links.proofs.ReadySets.{are-ready}
use Rattle.patch_links.proofs.links.Links.ready.Goals as goal

pub returns : goal.returns
returns g c = ok-more c.numbers.result _ _ c.numbers.ensures (λ all h. subst (λ (z : Links). AreReady z.slots z.numbers c.args.block all.items) c.self.view_is
    (are-ready c.args.block c.self.inside.nodes.slots c.self.inside.keys.numbers c.self.inside.blocks.items c.self.invariant.0 all.items
    (subst (λ (keys : List ℕ). IsArranged (gathered c.self.inside.nodes.slots keys) all.items) c.ready_keys.ensures h)))
