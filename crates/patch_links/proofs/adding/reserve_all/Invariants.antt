use Rattle.std.proofs.Common.{◌≡◌}
use Rattle.patch_links.proofs.Rooms.{AreReserved}
use Rattle.patch_links.proofs.adding.reserve_all.Given as goal

abbrev pub invariant-loop-at : goal.invariant-loop-at
invariant-loop-at g l = AreReserved l.keys.numbers l.more l.after l.initial.nodes.slots l.nodes.slots l.at × (l.nodes.vacant_key ≡ l.initial.nodes.vacant_key)
