use Rattle.std.proofs.Common.{subst, Some, None}
use Rattle.patch_links.specs.State.{Links}
use Rattle.patch_links.specs.Ready.{IsNextOpen}
use Rattle.patch_links.proofs.Openings.{next-open}
use Rattle.patch_links.proofs.links.Links.next_open.Goals as goal

pub returns-in-Some : goal.returns-in-Some
returns-in-Some g c = subst (λ (z : Links). IsNextOpen z.slots z.numbers c.args.from (Some c.in-Some.number)) c.self.view_is
    (next-open c.self.inside.nodes.slots c.self.inside.keys.numbers c.self.inside.blocks.items c.args.from (Some c.in-Some.number) c.self.invariant.0 c.in-Some.ensures)

pub returns-in-None : goal.returns-in-None
returns-in-None g c = subst (λ (z : Links). IsNextOpen z.slots z.numbers c.args.from None) c.self.view_is
    (next-open c.self.inside.nodes.slots c.self.inside.keys.numbers c.self.inside.blocks.items c.args.from None c.self.invariant.0 c.in-None.ensures)
