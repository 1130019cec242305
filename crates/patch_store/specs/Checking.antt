-- What a store holds, as it is reported.
use Rattle.std.specs.Prelude.{ℕ, ◌≡◌, List, length, map}
use Rattle.std.specs.List.{range_with_len}
use Rattle.patch_frame.specs.Frame.{Content}
use Rattle.patch_recovery.specs.Ledger.{map_of, value_in}
use Rattle.patch_plans.specs.Extents.{generation_at, offset_at}
use Rattle.patch_history.specs.History.{History, standing_of, ledger_of}
use Rattle.patch_history.specs.Shelf.{Shelf}
use Rattle.patch_index.specs.Reporting.{live_bytes}
use Rattle.patch_store.specs.declared.reports.ExtentReport.{ExtentReport}

-- a key with the length of its value, as a map has it
abbrev pub of_content : Content → List ℕ × ℕ
of_content c = (c.key, length c.value)

-- all of them, in the order of the slots
abbrev pub entries_of : History → List (List ℕ × ℕ)
entries_of h = map of_content (map_of (ledger_of h))

-- an extent of the shelf
abbrev pub extent_report : Shelf → ℕ → ExtentReport
extent_report s extent = record {
  generation = generation_at s.extents extent;
  pointer = offset_at s.extents extent;
  live = live_bytes s.slots extent;
}

abbrev pub extent_reports : Shelf → List ExtentReport
extent_reports s = map (extent_report s) (range_with_len 0 s.extents.geometry.extents)

-- The entries are those of the map that the cached blocks are read as, in the order of the slots; and it is the map of the
-- commands.
pub record ListsMap (h : History) (entries : List (List ℕ × ℕ)) : Type 0 where
  pub listed : entries ≡ entries_of h
  pub said : (key : List ℕ) → value_in (map_of (ledger_of h)) key ≡ value_in (standing_of h).map.entries key
