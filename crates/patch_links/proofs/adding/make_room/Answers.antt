use Rattle.std.proofs.Common.{ℕ, ap, subst, sym, ◌∙◌}
use Rattle.patch_links.specs.Lists.{Blocks, lists_of}
use Rattle.patch_links.specs.State.{Nodes}
use Rattle.patch_links.specs.Adding.{KeepsLists, IsRoomier, HasLists}
use Rattle.patch_links.proofs.Rooms.{lists-same, room-alike}
use Rattle.patch_links.proofs.Outcomes.{refused-done, done-still}
use Rattle.patch_links.proofs.adding.make_room.Goals as goal

pub invariant_of-blocks : goal.invariant_of-blocks
invariant_of-blocks g c = c.make_lists.ensures.noted

pub invariant_of-blocks-in_err-reserve : goal.invariant_of-blocks-in_err-reserve
invariant_of-blocks-in_err-reserve g c = c.make_lists.ensures.noted

pub invariant_of-blocks-2 : goal.invariant_of-blocks-2
invariant_of-blocks-2 g c = c.make_lists.ensures.noted

pub returns-in_err-make_lists-clause-kept : goal.returns-in_err-make_lists-clause-kept
returns-in_err-make_lists-clause-kept g c = subst (λ (xs : Blocks). KeepsLists xs (lists_of c.make_lists.new.lists.items)) (ap (λ z. z.items) c.blocks-2.view_is) c.make_lists.ensures.kept

pub returns-in_err-reserve-clause-kept : goal.returns-in_err-reserve-clause-kept
returns-in_err-reserve-clause-kept g c = subst (λ (xs : Blocks). KeepsLists xs (lists_of c.make_lists.new.lists.items)) (ap (λ z. z.items) c.blocks-2.view_is) c.make_lists.ensures.kept

pub returns-clause-kept : goal.returns-clause-kept
returns-clause-kept g c = subst (λ (xs : Blocks). KeepsLists xs (lists_of c.make_lists.new.lists.items)) (ap (λ z. z.items) c.blocks-2.view_is) c.make_lists.ensures.kept

pub returns-in_err-reserve_all-clause-kept : goal.returns-in_err-reserve_all-clause-kept
returns-in_err-reserve_all-clause-kept g c = lists-same c.args.blocks.now.items

pub returns-in_err-reserve_all-clause-nodes : goal.returns-in_err-reserve_all-clause-nodes
returns-in_err-reserve_all-clause-nodes g c = refused-done c.from_residual.result _ c.from_residual.ensures.0

pub returns-in_err-reserve_all-clause-numbers : goal.returns-in_err-reserve_all-clause-numbers
returns-in_err-reserve_all-clause-numbers g c = refused-done c.from_residual.result _ c.from_residual.ensures.0

pub returns-in_err-reserve_all-clause-followers : goal.returns-in_err-reserve_all-clause-followers
returns-in_err-reserve_all-clause-followers g c = refused-done c.from_residual.result _ c.from_residual.ensures.0

pub returns-in_err-reserve_all-clause-lists : goal.returns-in_err-reserve_all-clause-lists
returns-in_err-reserve_all-clause-lists g c = refused-done c.from_residual.result _ c.from_residual.ensures.0

pub returns-in_err-make_lists-clause-nodes : goal.returns-in_err-make_lists-clause-nodes
returns-in_err-make_lists-clause-nodes g c = refused-done c.from_residual-in_err-make_lists.result _ c.from_residual-in_err-make_lists.ensures.0

pub returns-in_err-make_lists-clause-numbers : goal.returns-in_err-make_lists-clause-numbers
returns-in_err-make_lists-clause-numbers g c = refused-done c.from_residual-in_err-make_lists.result _ c.from_residual-in_err-make_lists.ensures.0

pub returns-in_err-make_lists-clause-followers : goal.returns-in_err-make_lists-clause-followers
returns-in_err-make_lists-clause-followers g c = refused-done c.from_residual-in_err-make_lists.result _ c.from_residual-in_err-make_lists.ensures.0

pub returns-in_err-make_lists-clause-lists : goal.returns-in_err-make_lists-clause-lists
returns-in_err-make_lists-clause-lists g c = refused-done c.from_residual-in_err-make_lists.result _ c.from_residual-in_err-make_lists.ensures.0

pub returns-in_err-reserve-clause-nodes : goal.returns-in_err-reserve-clause-nodes
returns-in_err-reserve-clause-nodes g c = refused-done c.from_residual-in_err-reserve.result _ c.from_residual-in_err-reserve.ensures.0

pub returns-in_err-reserve-clause-numbers : goal.returns-in_err-reserve-clause-numbers
returns-in_err-reserve-clause-numbers g c = refused-done c.from_residual-in_err-reserve.result _ c.from_residual-in_err-reserve.ensures.0

pub returns-in_err-reserve-clause-followers : goal.returns-in_err-reserve-clause-followers
returns-in_err-reserve-clause-followers g c = refused-done c.from_residual-in_err-reserve.result _ c.from_residual-in_err-reserve.ensures.0

pub returns-in_err-reserve-clause-lists : goal.returns-in_err-reserve-clause-lists
returns-in_err-reserve-clause-lists g c = refused-done c.from_residual-in_err-reserve.result _ c.from_residual-in_err-reserve.ensures.0

pub returns-clause-roomier : goal.returns-clause-roomier
returns-clause-roomier g c = subst (λ (ns : Nodes). IsRoomier c.args.nodes.now.slots ns) (sym (ap (λ z. z.slots) c.reserve-2.ensures.rest_kept)) c.reserve_all.ensures.roomier

pub returns-clause-next : goal.returns-clause-next
returns-clause-next g c = ap (λ z. z.vacant_key) c.reserve-2.ensures.rest_kept ∙ c.reserve_all.ensures.next

pub returns-clause-lists : goal.returns-clause-lists
returns-clause-lists g c = done-still c.reserve-2.result _ (subst (λ (b : ℕ). HasLists b (lists_of c.make_lists.new.lists.items)) (ap (λ z. z.block) c.class.view_is) c.in_ok-make_lists.ensures.room)

pub returns-clause-followers : goal.returns-clause-followers
returns-clause-followers g c = done-still c.reserve-2.result _ (room-alike c.args.keys.now.numbers c.reserve.new.self.numbers c.after.result.now c.args.class.now.after c.reserve_all.new.nodes.slots c.reserve-2.new.self.slots
    c.reserve.ensures.same c.after.ensures (ap (λ z. z.slots) c.reserve-2.ensures.rest_kept) c.in_ok-reserve_all.ensures.room)
