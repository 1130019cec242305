use Rattle.std.proofs.Common.{ℕ, ap, subst, sym}
use Rattle.std.specs.Prelude.{◌<◌}
use Rattle.patch_links.specs.Adding.{IsRoomierOf}
use Rattle.patch_links.proofs.BlockRows.{has-lists, kept-roomier, noted-grown, row-low}
use Rattle.patch_links.proofs.Outcomes.{done-so}
use Rattle.patch_links.proofs.adding.make_lists.Goals as goal

pub returns-in-Some-clause-kept : goal.returns-in-Some-clause-kept
returns-in-Some-clause-kept g c =
    let more : IsRoomierOf c.in-Some.list.now c.grow.new.self = record { same = c.grow.ensures.same; ready = c.grow.ensures.ready; flying = c.grow.ensures.flying } in
    kept-roomier c.args.lists.now.items c.block.inside.0 c.in-Some.list.now c.grow.new.self c.in-Some.ensures.value more

pub returns-in-Some-clause-room : goal.returns-in-Some-clause-room
returns-in-Some-clause-room g c = done-so c.grow.result _ _ c.grow.ensures.room (λ room.
    has-lists c.args.lists.now.items c.args.block c.block.inside.0 c.grow.new.self c.block.view_is (row-low c.args.lists.now.items c.block.inside.0 c.in-Some.list.now c.in-Some.ensures.value)
    (subst (λ (n : ℕ). (n < c.grow.new.self.room_ready) × (n < c.grow.new.self.room_flying)) (sym (ap (λ z. z.count) c.grow.ensures.same)) room))

pub returns-in-Some-clause-noted : goal.returns-in-Some-clause-noted
returns-in-Some-clause-noted g c =
    let more : IsRoomierOf c.in-Some.list.now c.grow.new.self = record { same = c.grow.ensures.same; ready = c.grow.ensures.ready; flying = c.grow.ensures.flying } in
    noted-grown c.args.open.now c.args.lists.now.items c.block.inside.0 c.in-Some.list.now c.grow.new.self c.requires c.in-Some.ensures.value more
