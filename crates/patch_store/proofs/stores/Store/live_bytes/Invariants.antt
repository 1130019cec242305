use Rattle.std.proofs.Common.{◌≡◌, ◌≤◌, ◌*◌}
use Rattle.std.specs.Prelude.{sum_by}
use Rattle.std.specs.List.{range_with_len}
use Rattle.patch_index.specs.Reporting.{live_bytes}
use Rattle.patch_store.proofs.stores.Store.live_bytes.Given as goal

-- the bytes of the extents so far, each of which are a u32
abbrev pub invariant-loop-extent : goal.invariant-loop-extent
invariant-loop-extent g l =
    (l.live ≡ sum_by (live_bytes l.self.shelf.slots) (range_with_len 0 l.extent)) × (l.live ≤ l.extent * 4294967295)
