use Rattle.std.proofs.Common.{None, Some, ap, sym, subst}
use Rattle.patch_links.specs.Lists.{IsListed, AreListed, AreSettled}
use Rattle.patch_links.proofs.BlockRows.{changes-in, list-at, noted-row, room-of}
use Rattle.patch_links.proofs.Keeping.{bare-plain}
use Rattle.patch_links.proofs.Launching.{listed-all, settled-all}
use Rattle.patch_links.proofs.Landings.{some-listed}
use Rattle.patch_links.proofs.landing.tell_at.Goals as goal

pub settle-requires-clause-listed : goal.settle-requires-clause-listed
settle-requires-clause-listed g c = subst (IsListed c.args.block c.args.nodes.now.slots) (sym (list-at c.args.blocks.now.items c.blocks-2.inside.lists.items c.args.block c.block.inside.0 (Some c.in-Some.list.now) (ap (λ z. z.items) c.blocks-2.view_is) c.block.view_is c.in-Some.ensures.value)) (c.requires.listed c.args.block)

pub note-requires : goal.note-requires
note-requires g c few = room-of c.blocks-2.inside.open c.blocks-2.inside.lists.items c.args.block c.block.inside.0 c.in-Some.list.now c.blocks-2.invariant c.block.view_is c.in-Some.ensures.value few

pub invariant_of-blocks : goal.invariant_of-blocks
invariant_of-blocks g c = noted-row c.blocks-2.inside.open c.note.new.open c.blocks-2.inside.lists.items c.args.block c.block.inside.0 c.in-Some.list.now c.settle.new.list c.is_open.result c.blocks-2.invariant c.block.view_is
    c.in-Some.ensures.value c.is_open.ensures c.note.ensures.noted c.note.ensures.room

pub returns-in-Some-clause-listed : goal.returns-in-Some-clause-listed
returns-in-Some-clause-listed g c = listed-all _ _ _ _ _ _ c.requires.listed (changes-in c.args.blocks.now.items c.blocks-2.inside.lists.items c.args.block c.block.inside.0 c.in-Some.list.now c.settle.new.list (ap (λ z. z.items) c.blocks-2.view_is) c.block.view_is c.in-Some.ensures.value)
    c.settle.ensures.listed (bare-plain _ _ c.settle.ensures.rest.all) c.settle.ensures.rest.others

pub returns-in-Some-clause-settled : goal.returns-in-Some-clause-settled
returns-in-Some-clause-settled g c = settled-all _ _ _ _ c.requires.settled (changes-in c.args.blocks.now.items c.blocks-2.inside.lists.items c.args.block c.block.inside.0 c.in-Some.list.now c.settle.new.list (ap (λ z. z.items) c.blocks-2.view_is) c.block.view_is c.in-Some.ensures.value) c.settle.ensures.settled

pub returns-in-None-clause-listed : goal.returns-in-None-clause-listed
returns-in-None-clause-listed g c = subst (AreListed c.args.nodes.now.slots) (sym (ap (λ z. z.items) c.blocks-2.view_is)) c.requires.listed

pub returns-in-None-clause-settled : goal.returns-in-None-clause-settled
returns-in-None-clause-settled g c = subst AreSettled (sym (ap (λ z. z.items) c.blocks-2.view_is)) c.requires.settled

pub returns-in-None-clause-paid : goal.returns-in-None-clause-paid
returns-in-None-clause-paid g c = absurd (some-listed c.args.block c.args.key c.args.nodes.now.slots c.requires.here
    (subst (IsListed c.args.block c.args.nodes.now.slots) (sym (list-at c.args.blocks.now.items c.blocks-2.inside.lists.items c.args.block c.block.inside.0 None (ap (λ z. z.items) c.blocks-2.view_is) c.block.view_is c.in-None.ensures.value)) (c.requires.listed c.args.block)))
