use Rattle.std.proofs.Common.{None, ap, sym}
use Rattle.patch_links.proofs.BlockRows.{list-at, noted-row, room-of}
use Rattle.patch_links.proofs.Openings.{popped-none, popped-same, popped-some}
use Rattle.patch_links.proofs.landing.next_landing.Goals as goal

pub note-requires : goal.note-requires
note-requires g c few = room-of c.blocks-2.inside.open c.blocks-2.inside.lists.items c.args.block c.block.inside.0 c.in-Some.list.now c.blocks-2.invariant c.block.view_is c.in-Some.ensures.value few

pub invariant_of-blocks : goal.invariant_of-blocks
invariant_of-blocks g c = noted-row c.blocks-2.inside.open c.note.new.open c.blocks-2.inside.lists.items c.args.block c.block.inside.0 c.in-Some.list.now c.land-landed.new.self c.is_open.result c.blocks-2.invariant c.block.view_is
    c.in-Some.ensures.value c.is_open.ensures c.note.ensures.noted c.note.ensures.room

pub returns-in-Some-clause-none : goal.returns-in-Some-clause-none
returns-in-Some-clause-none g c = popped-none c.args.blocks.now.items c.blocks-2.inside.lists.items c.args.block c.block.inside.0 c.in-Some.list.now c.land-landed.new.self (ap (λ z. z.items) c.blocks-2.view_is) c.block.view_is
    c.in-Some.ensures.value c.land-landed.result c.land-landed.ensures.none

pub returns-in-Some-clause-same : goal.returns-in-Some-clause-same
returns-in-Some-clause-same g c = popped-same c.args.blocks.now.items c.blocks-2.inside.lists.items c.args.block c.block.inside.0 c.in-Some.list.now c.land-landed.new.self (ap (λ z. z.items) c.blocks-2.view_is) c.block.view_is
    c.in-Some.ensures.value c.land-landed.result c.land-landed.ensures.none

pub returns-in-Some-clause-some : goal.returns-in-Some-clause-some
returns-in-Some-clause-some g c = popped-some c.args.blocks.now.items c.blocks-2.inside.lists.items c.args.block c.block.inside.0 c.in-Some.list.now c.land-landed.new.self (ap (λ z. z.items) c.blocks-2.view_is) c.block.view_is
    c.in-Some.ensures.value c.land-landed.result c.land-landed.ensures.some

pub returns-in-None-clause-none : goal.returns-in-None-clause-none
returns-in-None-clause-none g c = ap (λ z. z.flying) (sym (list-at c.args.blocks.now.items c.blocks-2.inside.lists.items c.args.block c.block.inside.0 None (ap (λ z. z.items) c.blocks-2.view_is) c.block.view_is c.in-None.ensures.value))
