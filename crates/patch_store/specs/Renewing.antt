-- A store that begins anew.
use Rattle.std.specs.Prelude.{ℕ, ◌≡◌, List, [], find, replicate, count_by, Option, None, Ok}
use Rattle.std.specs.List.{range_with_len}
use Rattle.patch_model.specs.Entry.{is_live}
use Rattle.patch_model.specs.Renewed.{cached_blocks}
use Rattle.patch_model.specs.State.{entries_of}
use Rattle.patch_recovery.specs.Ledger.{Ledger, SaysSame, map_of, value_in}
use Rattle.patch_recovery.specs.Reading.{reading}
use Rattle.patch_group.specs.Renewing.{why_not_renewed}
use Rattle.patch_extent.specs.Renewing.{unpatched}
use Rattle.patch_history.specs.History.{History, execution_of, standing_of, ledger_of}
use Rattle.patch_history.specs.Shelf.{Shelf}
use Rattle.patch_plans.specs.Extents.{Extents}
use Rattle.patch_frame.specs.Slot.{SlotFields}
use Rattle.patch_store.specs.Meaning.{Store, IsStoreOf}
use Rattle.patch_store.specs.Opening.{at_opening, is_open}

-- extents and slots of which no patch is known, with the current extent that an opening finds
abbrev pub shelf_on : Extents → List (Option SlotFields) → Shelf
shelf_on extents slots = record {
  extents = extents;
  slots = slots;
  current = find (is_open extents) (range_with_len 0 extents.geometry.extents);
  last_delete = None;
  upgrade = None;
  left = replicate extents.geometry.extents [];
}

-- so they are kept behind a renewal
abbrev pub renewed_shelf : Shelf → Shelf
renewed_shelf s = shelf_on (unpatched s.extents) s.slots

-- no patch of the history is in memory or in flight, and each group is closed or was never engaged
pub record MayBeginAnew (h : History) : Type 0 where
  pub none_live : count_by is_live (entries_of (execution_of h)) ≡ 0
  pub no_group : why_not_renewed (standing_of h).groups ≡ None

-- or the store may not begin anew: some patch is, or some group is in use
abbrev pub IsUnderWay : History → Type 0
IsUnderWay h = MayBeginAnew h → ⊥

-- The history let the store begin anew, and it does: it represents the history of no events over the blocks as they were cached. The
-- ledger read from these says the same of all that the disk has as the one that the history led to, and each key has its value.
pub record HasBegunAnew (h : History) (new : Store) : Type 0 where
  pub may : MayBeginAnew h
  pub ledger : Ledger
  pub reads : reading (cached_blocks (execution_of h)) ≡ Ok ledger
  pub represents : IsStoreOf new (at_opening (cached_blocks (execution_of h)) ledger)
  pub stays : SaysSame ledger (ledger_of h)
  pub values : (key : List ℕ) → value_in (map_of ledger) key ≡ value_in (standing_of h).map.entries key
