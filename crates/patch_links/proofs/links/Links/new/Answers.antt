use Rattle.patch_links.proofs.Landings.{stands-none, below-none}
use Rattle.patch_links.proofs.links.Links.new.Goals as goal

pub invariant_of-result : goal.invariant_of-result
invariant_of-result g c = rw (c.new.ensures.empty, c.new-2.ensures, c.new-3.ensures) (stands-none, below-none)
