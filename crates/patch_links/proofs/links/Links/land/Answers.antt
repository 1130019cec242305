use Rattle.patch_links.proofs.links.Links.land.Goals as goal

pub invariant_of-self : goal.invariant_of-self
invariant_of-self g c = (c.land.ensures.stands, c.land.ensures.below c.self.inside.made c.self.invariant.1)
