use Rattle.patch_links.proofs.Rooms.{stands-roomier, below-roomier}
use Rattle.patch_links.proofs.adding.add.Goals as goal

pub returns-in_err-make_room-clause-stands : goal.returns-in_err-make_room-clause-stands
returns-in_err-make_room-clause-stands g c = rw c.make_room.ensures.keys (stands-roomier c.args.nodes.now.slots c.make_room.new.nodes.slots c.args.keys.now.numbers c.args.blocks.now.items c.make_room.new.blocks.items
    c.make_room.ensures.roomier c.make_room.ensures.kept c.requires.stands)

pub put_in-requires-clause-stands : goal.put_in-requires-clause-stands
put_in-requires-clause-stands g c = rw c.make_room.ensures.keys (stands-roomier c.args.nodes.now.slots c.make_room.new.nodes.slots c.args.keys.now.numbers c.args.blocks.now.items c.make_room.new.blocks.items
    c.make_room.ensures.roomier c.make_room.ensures.kept c.requires.stands)

pub put_in-requires-clause-below : goal.put_in-requires-clause-below
put_in-requires-clause-below g c = below-roomier c.args.class.name c.args.nodes.now.slots c.make_room.new.nodes.slots c.make_room.ensures.roomier c.requires.below
