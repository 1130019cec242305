use Rattle.std.proofs.Common.{ℕ, ◌*◌, ◌<◌, ◌≤◌}
use Rattle.patch_room.specs.declared.ahead.TheConstants.{MOST_AHEAD}
use Rattle.patch_room.proofs.ahead.pace.Given as goal

-- so many frames and fewer are not enough
abbrev pub invariant-loop-count : goal.invariant-loop-count
invariant-loop-count l = record {
  within : l.count ≤ MOST_AHEAD;
  fewer : (fewer : ℕ) → fewer < l.count → fewer * l.spare < l.live;
}
