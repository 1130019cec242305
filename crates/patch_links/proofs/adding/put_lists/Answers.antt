use Rattle.std.proofs.Common.{◌≡◌, ◌<◌, ◌∙◌, ℕ, None, Some, ap, arith, length, set, subst, sym}
use Rattle.patch_model.specs.declared.limits.TheConstants.{MAX_CACHED}
use Rattle.patch_numbers.specs.BlockSets.{HasRoom}
use Rattle.patch_links.specs.Lists.{AreNoted, lists_of, nothing}
use Rattle.patch_links.specs.Adding.{HasLists, IsRoomierOf, KeepsLists}
use Rattle.patch_links.proofs.BlockRows.{Rows, row_of, has-lists, kept-alike, kept-put, noted-alike, noted-put, noted-roomier, only-room}
use Rattle.patch_links.proofs.Rooms.{lists-then}
use Rattle.patch_links.proofs.adding.put_lists.Goals as goal

pub returns-in_err-reserve-clause-kept : goal.returns-in_err-reserve-clause-kept
returns-in_err-reserve-clause-kept g c = kept-alike c.args.lists.now.items c.reserve.new.self.items (λ n. ap (λ (xs : Rows). row_of xs n) c.reserve.ensures.same ∙ c.lengthen.ensures.kept n)

pub returns-in_err-reserve-clause-noted : goal.returns-in_err-reserve-clause-noted
returns-in_err-reserve-clause-noted g c =
    noted-alike c.make_room.new.open c.args.lists.now.items c.reserve.new.self.items
    (noted-roomier c.args.open.now c.make_room.new.open c.args.lists.now.items c.requires.noted c.make_room.ensures.kept c.make_room.ensures.longer)
    (λ n. ap (λ (xs : Rows). row_of xs n) c.reserve.ensures.same ∙ c.lengthen.ensures.kept n)

pub returns : goal.returns
returns g c =
    let rows = c.args.lists.now.items in
    let mid = c.reserve.new.self.items in
    let i = c.block.inside.0 in
    let grown = c.grow.new.self in
    let alike : (n : ℕ) → row_of mid n ≡ row_of rows n = λ n. ap (λ (xs : Rows). row_of xs n) c.reserve.ensures.same ∙ c.lengthen.ensures.kept n in
    let none : row_of mid i ≡ None = alike i ∙ ap (row_of rows) c.block.view_is ∙ c.requires.none in
    let long = c.lengthen.ensures.long in
    let low : i < length mid = omega (arith, ap (λ (xs : Rows). length xs) c.reserve.ensures.same) in
    let more : IsRoomierOf nothing grown =
    only-room c.new-list.result grown c.new-list.ensures.ready c.new-list.ensures.done c.new-list.ensures.flying c.new-list.ensures.count c.grow.ensures.same in
    let room = c.in_ok-grow.ensures.room in
    let counted = ap (λ z. z.count) c.grow.ensures.same in
    record {
      kept = subst (λ (xs : Rows). KeepsLists (lists_of rows) (lists_of xs)) (sym c.put.ensures) (lists-then (lists_of rows) (lists_of mid) (lists_of (set mid i (Some grown))) (kept-alike rows mid alike) (kept-put mid i grown none low more));
      room = subst (λ (xs : Rows). HasLists c.args.block (lists_of xs)) (sym c.put.ensures) (has-lists mid c.args.block i grown c.block.view_is low (omega arith, omega arith));
      noted = subst (AreNoted c.make_room.new.open) (sym c.put.ensures) (noted-put c.make_room.new.open mid i grown
          (noted-alike c.make_room.new.open rows mid (noted-roomier c.args.open.now c.make_room.new.open rows c.requires.noted c.make_room.ensures.kept c.make_room.ensures.longer) alike) none low more
          (subst (λ (n : ℕ). n < MAX_CACHED → HasRoom c.make_room.new.open n) (sym c.block.view_is) c.in_ok-make_room.ensures.room));
    }
