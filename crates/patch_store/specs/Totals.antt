-- How full a store is, in numbers.
use Rattle.std.specs.Prelude.{length, sum_by}
use Rattle.std.specs.List.{range_with_len}
use Rattle.patch_frame.specs.Geometry.{block_count}
use Rattle.patch_history.specs.Choosing.{empty_extents}
use Rattle.patch_history.specs.History.{History, standing_of}
use Rattle.patch_history.specs.Shelf.{Shelf}
use Rattle.patch_index.specs.Reporting.{live_bytes}
use Rattle.patch_store.specs.Checking.{entries_of}
use Rattle.patch_store.specs.declared.totals.Totals.{Totals}

-- the keys of the map, the bytes of their frames in all extents, and the extents that nothing is in
abbrev pub totals_at : History → Shelf → Totals
totals_at h s = record {
  keys = length (entries_of h);
  live = sum_by (live_bytes s.slots) (range_with_len 0 s.extents.geometry.extents);
  blocks = block_count s.extents.geometry;
  extents = s.extents.geometry.extents;
  empty = length (empty_extents s);
}

abbrev pub totals_of : History → Totals
totals_of h = totals_at h (standing_of h).shelf
