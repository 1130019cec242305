use Rattle.std.proofs.Common.{None, Some, ap, ◌∙◌}
use Rattle.patch_links.proofs.BlockRows.{list-at}
use Rattle.patch_links.proofs.asking.count.Goals as goal

pub returns-in-Some : goal.returns-in-Some
returns-in-Some g c = c.count.ensures ∙ ap (λ z. z.count) (list-at c.args.blocks.now.items c.blocks-2.inside.lists.items c.args.block c.block.inside.0 (Some c.in-Some.list.now) (ap (λ z. z.items) c.blocks-2.view_is) c.block.view_is c.in-Some.ensures)

pub returns-in-None : goal.returns-in-None
returns-in-None g c = ap (λ z. z.count) (list-at c.args.blocks.now.items c.blocks-2.inside.lists.items c.args.block c.block.inside.0 None (ap (λ z. z.items) c.blocks-2.view_is) c.block.view_is c.in-None.ensures)
