use Rattle.std.proofs.Common.{sym}
use Rattle.patch_links.proofs.Rooms.{roomier-set, roomier-same}
use Rattle.patch_links.proofs.adding.reserve_at.Goals as goal

pub returns-in-Some-clause-roomier : goal.returns-in-Some-clause-roomier
returns-in-Some-clause-roomier g c = roomier-set c.args.nodes.now.slots c.args.key c.in-Some.node.now c.reserve_in.new.node (sym c.in-Some.ensures.value) c.reserve_in.ensures.same c.reserve_in.ensures.grows

pub returns-in-None-clause-roomier : goal.returns-in-None-clause-roomier
returns-in-None-clause-roomier g c = roomier-same c.args.nodes.now.slots
