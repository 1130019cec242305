use Rattle.std.proofs.Common.{take, ◌≡◌}
use Rattle.std.specs.Prelude.{count_by}
use Rattle.patch_links.specs.Waiting.{is_unmet}
use Rattle.patch_links.specs.Adding.{AreFollowed}
use Rattle.patch_links.proofs.adding.follow_all.Given as goal

abbrev pub invariant-loop-at : goal.invariant-loop-at
invariant-loop-at g l = AreFollowed l.keys.numbers l.follower (take l.at l.after) l.initial.nodes.slots l.nodes.slots
    × (l.unmet ≡ count_by (is_unmet l.initial.nodes.slots l.keys.numbers l.key l.block) (take l.at l.after))
    × (l.nodes.capacity ≡ l.initial.nodes.capacity) × (l.nodes.vacant_key ≡ l.initial.nodes.vacant_key)
