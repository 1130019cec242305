use Rattle.std.proofs.Common.{subst, not}
use Rattle.patch_links.specs.State.{Links}
use Rattle.patch_links.specs.Ready.{TellsReady}
use Rattle.patch_links.proofs.ReadySets.{tells-ready}
use Rattle.patch_links.proofs.links.Links.any_ready.Goals as goal

pub returns : goal.returns
returns g c = subst (λ (z : Links). TellsReady z.slots z.numbers c.args.block (not c.is_empty.result)) c.self.view_is
    (tells-ready c.args.block c.self.inside.nodes.slots c.self.inside.keys.numbers c.self.inside.blocks.items c.self.invariant.0 c.ready_keys.result.now c.is_empty.result c.ready_keys.ensures c.is_empty.ensures)
