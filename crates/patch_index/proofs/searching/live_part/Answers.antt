use Rattle.std.proofs.Common.{◌+◌, ◌∷◌, [], map, subst}
use Rattle.patch_index.specs.Index.{told}
use Rattle.patch_index.specs.Orders.{place_in, IsPlace}
use Rattle.patch_index.proofs.Parts.{part_is_live}
use Rattle.patch_index.proofs.searching.live_part.Goals as goal

pub returns-clause-slots : goal.returns-clause-slots
returns-clause-slots c =
    let slots = map told c.args.slots.now in
    let order = c.args.order.now in
    part_is_live slots order c.args.extent c.place_by_place-from.result c.place_by_place-to.result c.requires
    (subst (λ e. IsPlace (place_in slots) (e ∷ 0 ∷ [], 0) order c.place_by_place-from.result) c.from.ensures c.place_by_place-from.ensures)
    (subst (λ e. IsPlace (place_in slots) ((e + 1) ∷ 0 ∷ [], 0) order c.place_by_place-to.result) c.from-2.ensures c.place_by_place-to.ensures)
