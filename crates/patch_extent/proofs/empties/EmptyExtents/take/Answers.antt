use Rattle.std.proofs.Common.{◌∙◌, sym, ap}
use Rattle.std.specs.List.{remove}
use Rattle.patch_extent.proofs.Rising.{taken, stays}
use Rattle.patch_extent.proofs.empties.EmptyExtents.take.Goals as goal

pub returns-then-stands_at : goal.returns-then-stands_at
returns-then-stands_at g c test count is =
    let at = c.place_of-at.result in
    c.remove.ensures ∙ ap (λ xs. remove xs at) c.self.view_is
    ∙ taken c.args.self.now test count c.args.extent at is (sym c.stands_at.ensures ∙ c.if-stands_at.true)

pub returns-else-stands_at : goal.returns-else-stands_at
returns-else-stands_at g c test count is =
    stays c.args.self.now test count c.args.extent c.place_of-at.result is (c.place_of-at.ensures.place test count is) (sym c.stands_at.ensures ∙ c.if-stands_at.false)
