use Rattle.std.proofs.Common.{subst}
use Rattle.patch_links.specs.Lists.{ByBlock, IsLeastOpen, lists_of}
use Rattle.patch_links.proofs.Openings.{least-open}
use Rattle.patch_links.proofs.blocks.Blocks.next_open.Goals as goal

pub returns : goal.returns
returns g c = subst (λ (z : ByBlock). IsLeastOpen z.items c.args.from c.least_from.result) c.self.view_is
    (least-open c.self.inside.open (lists_of c.self.inside.lists.items) c.args.from c.least_from.result c.self.invariant.just c.least_from.ensures)
