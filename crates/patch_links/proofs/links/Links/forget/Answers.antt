use Rattle.patch_links.specs.Lists.{of_at}
use Rattle.patch_links.proofs.Openings.{none-open, stands-let-go}
use Rattle.patch_links.proofs.links.Links.forget.Goals as goal

pub forget-requires : goal.forget-requires
forget-requires g c none =
    none-open c.args.block c.self.inside.nodes.slots (of_at c.self.inside.blocks.items c.args.block) (c.self.invariant.0.listed c.args.block) none

pub invariant_of-self : goal.invariant_of-self
invariant_of-self g c = (stands-let-go c.self.inside.nodes.slots c.self.inside.keys.numbers c.self.inside.blocks.items c.forget.new.self.items c.self.invariant.0 c.forget.ensures, c.self.invariant.1)
