use Rattle.std.proofs.Common.{subst}
use Rattle.patch_links.specs.State.{Links, slots_of}
use Rattle.patch_links.specs.MarkFlight.{HasFlown}
use Rattle.patch_links.proofs.Keeping.{below-kept}
use Rattle.patch_links.proofs.ReadySets.{has-flown}
use Rattle.patch_links.proofs.links.Links.fly.Goals as goal

pub invariant_of-self : goal.invariant_of-self
invariant_of-self g c = (c.fly.ensures.stands, below-kept c.self.inside.made c.self.inside.nodes.slots c.fly.new.nodes.slots c.fly.ensures.plain c.self.invariant.1)

pub returns : goal.returns
returns g c = subst (λ (z : Links). HasFlown c.args.block z (record { made = c.self.inside.made; slots = slots_of c.fly.new.nodes.slots; next = c.fly.new.nodes.vacant_key; numbers = c.self.inside.keys.numbers })) c.self.view_is
    (has-flown c.args.block c.self.inside.nodes.slots c.self.inside.keys.numbers c.self.inside.blocks.items c.self.invariant.0 c.self.inside.made c.self.inside.nodes.vacant_key c.fly.new.nodes.vacant_key c.fly.new.nodes.slots c.fly.ensures.flown)
