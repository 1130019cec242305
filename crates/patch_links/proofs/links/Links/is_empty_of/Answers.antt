use Rattle.std.proofs.Common.{subst}
use Rattle.std.specs.Prelude.{◌==◌}
use Rattle.patch_links.specs.State.{Links}
use Rattle.patch_links.specs.Ready.{TellsEmpty}
use Rattle.patch_links.proofs.ReadySets.{tells-empty}
use Rattle.patch_links.proofs.links.Links.is_empty_of.Goals as goal

pub returns : goal.returns
returns g c = subst (λ (z : Links). TellsEmpty z.slots c.args.block (c.count.result == 0)) c.self.view_is
    (tells-empty c.args.block c.self.inside.nodes.slots c.self.inside.keys.numbers c.self.inside.blocks.items c.self.invariant.0 c.count.result c.count.ensures)
