use Rattle.std.proofs.Common.{None, Some, sym, ap, subst}
use Rattle.patch_links.specs.Lists.{IsListed, IsSettled}
use Rattle.patch_links.specs.Invariants.{Stands}
use Rattle.patch_links.proofs.BlockRows.{changes-in, list-at, noted-row, room-of}
use Rattle.patch_links.proofs.Landings.{some-listed}
use Rattle.patch_links.proofs.Pairs.{stands-joined, pair-of}
use Rattle.patch_links.proofs.joining.join_at.Goals as goal

pub join_in-joined-requires-clause-listed : goal.join_in-joined-requires-clause-listed
join_in-joined-requires-clause-listed g c = subst (IsListed c.args.block c.args.nodes.now.slots) (sym (list-at c.args.blocks.now.items c.blocks-2.inside.lists.items c.args.block c.block.inside.0 (Some c.in-Some.list.now) (ap (λ z. z.items) c.blocks-2.view_is) c.block.view_is c.in-Some.ensures.value)) (c.requires.listed c.args.block)

pub join_in-joined-requires-clause-settled : goal.join_in-joined-requires-clause-settled
join_in-joined-requires-clause-settled g c = subst IsSettled (sym (list-at c.args.blocks.now.items c.blocks-2.inside.lists.items c.args.block c.block.inside.0 (Some c.in-Some.list.now) (ap (λ z. z.items) c.blocks-2.view_is) c.block.view_is c.in-Some.ensures.value)) (c.requires.settled c.args.block)

pub note-requires : goal.note-requires
note-requires g c few = room-of c.blocks-2.inside.open c.blocks-2.inside.lists.items c.args.block c.block.inside.0 c.in-Some.list.now c.blocks-2.invariant c.block.view_is c.in-Some.ensures.value few

pub invariant_of-blocks : goal.invariant_of-blocks
invariant_of-blocks g c = noted-row c.blocks-2.inside.open c.note.new.open c.blocks-2.inside.lists.items c.args.block c.block.inside.0 c.in-Some.list.now c.join_in-joined.new.list c.is_open.result c.blocks-2.invariant c.block.view_is
    c.in-Some.ensures.value c.is_open.ensures c.note.ensures.noted c.note.ensures.room

pub returns-in-Some-clause-stands : goal.returns-in-Some-clause-stands
returns-in-Some-clause-stands g c = stands-joined c.args.block _ _ _ _ _ _ _
    (record { members = c.requires.tied.members; linked = c.requires.tied.linked; counted = c.requires.tied.counted; listed = c.requires.listed; settled = c.requires.settled })
    (changes-in c.args.blocks.now.items c.blocks-2.inside.lists.items c.args.block c.block.inside.0 c.in-Some.list.now c.join_in-joined.new.list (ap (λ z. z.items) c.blocks-2.view_is) c.block.view_is c.in-Some.ensures.value) c.join_in-joined.ensures.listed c.join_in-joined.ensures.settled c.join_in-joined.ensures.order

pub returns-in-None-clause-joined : goal.returns-in-None-clause-joined
returns-in-None-clause-joined g c at-keep at-gone one other = absurd (some-listed c.args.block c.args.keep c.args.nodes.now.slots (pair-of c.args.block c.args.keep c.args.gone c.args.nodes.now.slots c.requires.pair)
    (subst (IsListed c.args.block c.args.nodes.now.slots) (sym (list-at c.args.blocks.now.items c.blocks-2.inside.lists.items c.args.block c.block.inside.0 None (ap (λ z. z.items) c.blocks-2.view_is) c.block.view_is c.in-None.ensures.value)) (c.requires.listed c.args.block)))

pub returns-in-None-clause-stands : goal.returns-in-None-clause-stands
returns-in-None-clause-stands g c = subst (Stands c.args.nodes.now.slots c.args.keys.now.numbers) (sym (ap (λ z. z.items) c.blocks-2.view_is))
    (record { members = c.requires.tied.members; linked = c.requires.tied.linked; counted = c.requires.tied.counted; listed = c.requires.listed; settled = c.requires.settled })
