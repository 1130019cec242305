use Rattle.std.proofs.Common.{ap, sym, subst, Some}
use Rattle.patch_links.specs.Lists.{IsListed}
use Rattle.patch_links.proofs.BlockRows.{changes-in, list-at, noted-row, room-of}
use Rattle.patch_links.proofs.Launching.{stands-flown}
use Rattle.patch_links.proofs.flying.fly.Goals as goal

pub fly_list-requires-clause-listed : goal.fly_list-requires-clause-listed
fly_list-requires-clause-listed g c = subst (IsListed c.args.block c.args.nodes.now.slots) (sym (list-at c.args.blocks.now.items c.blocks-2.inside.lists.items c.args.block c.block.inside.0 (Some c.in-Some.list.now) (ap (λ z. z.items) c.blocks-2.view_is) c.block.view_is c.in-Some.ensures.value)) (c.requires.listed c.args.block)

pub note-requires : goal.note-requires
note-requires g c few = room-of c.blocks-2.inside.open c.blocks-2.inside.lists.items c.args.block c.block.inside.0 c.in-Some.list.now c.blocks-2.invariant c.block.view_is c.in-Some.ensures.value few

pub invariant_of-blocks : goal.invariant_of-blocks
invariant_of-blocks g c = noted-row c.blocks-2.inside.open c.note.new.open c.blocks-2.inside.lists.items c.args.block c.block.inside.0 c.in-Some.list.now c.fly_list.new.list c.is_open.result c.blocks-2.invariant c.block.view_is
    c.in-Some.ensures.value c.is_open.ensures c.note.ensures.noted c.note.ensures.room

pub returns-in-Some-clause-stands : goal.returns-in-Some-clause-stands
returns-in-Some-clause-stands g c = stands-flown _ _ _ _ _ _ _ _
    (record { members = c.requires.members; linked = c.requires.linked; counted = c.requires.counted; listed = c.requires.listed; settled = c.requires.settled })
    (changes-in c.args.blocks.now.items c.blocks-2.inside.lists.items c.args.block c.block.inside.0 c.in-Some.list.now c.fly_list.new.list (ap (λ z. z.items) c.blocks-2.view_is) c.block.view_is c.in-Some.ensures.value)
    c.fly_list.ensures.listed c.fly_list.ensures.settled c.fly_list.ensures.counted c.fly_list.ensures.flown
