use Rattle.std.proofs.Common.{◌≡◌, ◌≤◌, length}
use Rattle.std.specs.Prelude.{◌==◌, filter}
use Rattle.std.specs.List.{range_with_len}
use Rattle.patch_plans.specs.Extents.{offset_at}
use Rattle.patch_store.proofs.stores.Store.count_empty.Given as goal

-- as many of the extents so far are empty
abbrev pub invariant-loop-extent : goal.invariant-loop-extent
invariant-loop-extent g l =
    (l.count ≡ length (filter (λ e. offset_at l.self.shelf.extents e == 0) (range_with_len 0 l.extent))) × (l.count ≤ l.extent)
