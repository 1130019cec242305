use Rattle.std.proofs.Common.{◌≡◌, ◌≤◌}
use Rattle.patch_room.specs.Room.{extent_count}
use Rattle.patch_room.proofs.Cheapest.{IsBest}
use Rattle.patch_room.proofs.choosing.cheapest.Given as goal

-- the best of the extents so far
abbrev pub invariant-loop-extent : goal.invariant-loop-extent
invariant-loop-extent g l = record {
  within : l.extent ≤ l.extent-end;
  all : l.extent-end ≡ extent_count l.store.shelf;
  best : IsBest l.store.shelf l.extent l.best;
}
