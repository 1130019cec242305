use Rattle.std.proofs.Common.{ap}
use Rattle.patch_links.proofs.BlockRows.{changes-in, noted-row, room-of}
use Rattle.patch_links.proofs.Launching.{settled-all}
use Rattle.patch_links.proofs.Newcomers.{listed-newcomer}
use Rattle.patch_links.proofs.adding.enlist.Goals as goal

pub note-requires : goal.note-requires
note-requires g c few = room-of c.blocks-2.inside.open c.blocks-2.inside.lists.items c.args.block c.block.inside.0 c.in-Some.list.now c.blocks-2.invariant c.block.view_is c.in-Some.ensures.value few

pub invariant_of-blocks : goal.invariant_of-blocks
invariant_of-blocks g c = noted-row c.blocks-2.inside.open c.note.new.open c.blocks-2.inside.lists.items c.args.block c.block.inside.0 c.in-Some.list.now c.enlist_in.new.list c.is_open.result c.blocks-2.invariant c.block.view_is
    c.in-Some.ensures.value c.is_open.ensures c.note.ensures.noted c.note.ensures.room

pub returns-in-Some-clause-listed : goal.returns-in-Some-clause-listed
returns-in-Some-clause-listed g c = listed-newcomer c.args.block c.args.key c.requires.enlisting.before c.args.nodes.now.slots c.requires.enlisting.newcomer c.enlist_in.new.nodes.slots _ _ _
    c.requires.enlisting.listed (changes-in c.args.blocks.now.items c.blocks-2.inside.lists.items c.args.block c.block.inside.0 c.in-Some.list.now c.enlist_in.new.list (ap (λ z. z.items) c.blocks-2.view_is) c.block.view_is c.in-Some.ensures.value)
    c.enlist_in.ensures.listed c.enlist_in.ensures.rest

pub returns-in-Some-clause-settled : goal.returns-in-Some-clause-settled
returns-in-Some-clause-settled g c = settled-all _ _ _ _ c.requires.enlisting.settled (changes-in c.args.blocks.now.items c.blocks-2.inside.lists.items c.args.block c.block.inside.0 c.in-Some.list.now c.enlist_in.new.list (ap (λ z. z.items) c.blocks-2.view_is) c.block.view_is c.in-Some.ensures.value) c.enlist_in.ensures.settled

pub returns-in-Some-clause-counted : goal.returns-in-Some-clause-counted
returns-in-Some-clause-counted g c = c.enlist_in.ensures.owed (λ k x. 0) c.requires.counted
