use Rattle.std.proofs.Common.{◌≡◌, map}
use Rattle.std.specs.List.{range_with_len}
use Rattle.patch_store.specs.Checking.{extent_report}
use Rattle.patch_store.proofs.stores.Store.extent_reports.Given as goal

-- the extents so far
abbrev pub invariant-loop-extent : goal.invariant-loop-extent
invariant-loop-extent g l = l.extents.items ≡ map (extent_report l.self.shelf) (range_with_len 0 l.extent)
