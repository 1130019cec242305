-- How full a store is, and what its syncs have done.
use Rattle.std.specs.Prelude.{ℕ, Bool, ◌+◌, ◌*◌, ◌-◌, ◌^◌, min, if◌then◌else◌, List, count_by, is_none}
use Rattle.patch_model.specs.declared.blocks.TheConstants.{BLOCK}
use Rattle.patch_device.specs.Cuts.{Event}
use Rattle.patch_history.specs.History.{History}
use Rattle.patch_store.specs.Totals.{totals_of}
use Rattle.patch_c.specs.declared.counting.Statistics.{Statistics}
use Rattle.patch_c.specs.declared.opened.Tally.{Tally}
use Rattle.patch_c.specs.Reading.{unsynced}

abbrev pub statistics_of : History → Tally → Statistics
statistics_of h tally =
    let totals = totals_of h in
    record {
      keys = totals.keys;
      unsynced = unsynced h;
      live_bytes = totals.live;
      file_bytes = totals.blocks * BLOCK;
      extents = totals.extents;
      empty_extents = totals.empty;
      syncs = tally.syncs;
      waves = tally.waves;
    }

-- A store that was just opened has done no sync.
abbrev pub no_syncs : Tally
no_syncs = record { syncs = 0; waves = 0 }

-- so many more, as far as they are counted
abbrev pub counted_on : (before more : ℕ) → ℕ
counted_on before more = min (before + more) (2 ^ 64 - 1)

-- behind a sync that was done, each barrier of whose tape ends a wave; any other counts for nothing
abbrev pub tally_behind : (is_done : Bool) → List Event → Tally → Tally
tally_behind is_done events tally =
    if is_done then record { syncs = counted_on tally.syncs 1; waves = counted_on tally.waves (count_by is_none events) } else tally
