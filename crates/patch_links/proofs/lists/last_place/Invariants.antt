use Rattle.std.proofs.Common.{◌<◌, ◌≤◌, take}
use Rattle.patch_links.specs.Lists.{times}
use Rattle.patch_links.proofs.lists.last_place.Given as goal

abbrev pub invariant-loop-place : goal.invariant-loop-place
invariant-loop-place l = (l.place ≤ l.count) × (0 < times (take l.place l.keys) l.key)

abbrev pub decreases-loop-place : goal.decreases-loop-place
decreases-loop-place l = l.place
