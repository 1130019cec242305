use Rattle.std.proofs.Common.{◌≡◌, ◌*◌, ◌≤◌, map, take}
use Rattle.std.specs.List.{sum_by}
use Rattle.patch_index.specs.Index.{told}
use Rattle.patch_index.proofs.Reported.{length_at}
use Rattle.patch_index.proofs.indexes.Index.count_live.Given as goal

-- those of the slots so far
abbrev pub invariant-loop-at : goal.invariant-loop-at
invariant-loop-at g l = record {
  live : l.live ≡ sum_by (length_at (map told l.slots)) (take l.at l.part);
  few : l.live ≤ l.at * 262144;
}
