use Rattle.std.proofs.Common.{refl}
use Rattle.patch_room.proofs.Steps.{share_of_cheapest}
use Rattle.patch_room.proofs.ahead.timely_share.Goals as goal

pub returns-in-None-clause-none : goal.returns-in-None-clause-none
returns-in-None-clause-none g c none extent count timely =
    c.in-None.ensures.none refl count
    (share_of_cheapest c.args.store.now.shelf _ _ _ c.in-Some.next.live c.in-Some.next.extent extent count c.least_spare-least.ensures c.room_left.ensures
    c.empty_extents-2.ensures c.in-Some.ensures.some.0 c.in-Some.ensures.some.1 timely)
