-- Laws of histories.
use Rattle.std.specs.Prelude.{ℕ, true, ◌≡◌, ◌≤◌, ◌<◌, List, ◌++◌, length, count_by, Some}
use Rattle.patch_model.specs.Entry.{is_live}
use Rattle.patch_model.specs.State.{entries_of}
use Rattle.patch_model.specs.Legal.{IsLegal}
use Rattle.patch_plans.specs.declared.limits.TheConstants.{MAX_GROUPS}
use Rattle.patch_plans.specs.Order.{AreGroupsOf}
use Rattle.patch_recovery.specs.Ledger.{value_in}
use Rattle.patch_recovery.specs.Said.{last_said}
use Rattle.patch_recovery.specs.Store.{IsOfStore}
use Rattle.patch_recovery.specs.Closed.{Opens}
use Rattle.patch_model.specs.Renewed.{cached_blocks}
use Rattle.patch_recovery.specs.Lasting.{Tells}
use Rattle.patch_plans.specs.Extents.{offset_at}
use Rattle.patch_plans.specs.Meaning as extents
use Rattle.patch_history.specs.StoreState.{made_by, live_of}
use Rattle.patch_history.specs.History.{History, Event, IsLegalHistory, IsRight, execution_of, standing_of, ledger_of}
use Rattle.patch_history.specs.History.{with_event}

-- one event more is judged by the history so far
abbrev pub HistoriesExtend : Type 0
HistoriesExtend =
    (h : History) (event : Event) → IsLegalHistory h → IsRight (standing_of h) event
    → IsLegal (execution_of (with_event h event)) → IsLegalHistory (with_event h event)

-- the history with more events behind its own
abbrev pub with_events : History → List Event → History
with_events h later = record h { events = h.events ++ later }

-- the first events of a legal history are one: each was judged by those before it
abbrev pub HistoriesBegin : Type 0
HistoriesBegin = (h : History) (later : List Event) → IsLegalHistory (with_events h later) → IsLegalHistory h

-- what a history's calls have made of the execution is its steps
abbrev pub StandingsRun : Type 0
StandingsRun = (h : History) → (standing_of h).run ≡ execution_of h

-- The patches of a legal history are its changes, spelled; each was right where it was made, and comes after what it
-- has to.
abbrev pub HistoriesAreOfStores : Type 0
HistoriesAreOfStores = (h : History) → IsLegalHistory h → IsOfStore (execution_of h) h.first (standing_of h).made

-- the map of the commands that were done has for each key what the changes say of it
abbrev pub MapsAreSaid : Type 0
MapsAreSaid =
    (h : History) (key : List ℕ) → IsLegalHistory h
    → value_in (standing_of h).map.entries key ≡ last_said (λ number. true) h.first (standing_of h).made key

-- so the cached blocks are read as that map
abbrev pub HistoriesAreRead : Type 0
HistoriesAreRead =
    (h : History) → IsLegalHistory h
    → Opens (cached_blocks (execution_of h)) (ledger_of h) (value_in (standing_of h).map.entries)

-- the extents that are kept represent the execution
abbrev pub ExtentsAreKept : Type 0
ExtentsAreKept =
    (h : History) → IsLegalHistory h → extents.AreExtentsOf (standing_of h).shelf.extents (execution_of h)

-- and the groups are those of the execution
abbrev pub GroupsAreKept : Type 0
GroupsAreKept = (h : History) → IsLegalHistory h → AreGroupsOf (execution_of h) (standing_of h).groups

-- there are no more groups than may be made
abbrev pub GroupsAreFew : Type 0
GroupsAreFew = (h : History) → IsLegalHistory h → length (standing_of h).groups.groups ≤ MAX_GROUPS

-- What a standing says, and the blocks with it: the format; how many patches were made; the frame of each used slot, which
-- has the value of its key in the map; and the current extent, which is one of the disk's and not empty.
pub record Agrees (h : History) : Type 0 where
  pub format : (standing_of h).map.format ≡ (ledger_of h).geometry.format
  pub made : made_by (standing_of h) ≡ length (entries_of (execution_of h))
  pub live : live_of (standing_of h) ≡ count_by is_live (entries_of (execution_of h))
  pub tells : Tells (ledger_of h) (value_in (standing_of h).map.entries)
  pub current : (e : ℕ) → (standing_of h).shelf.current ≡ Some e → e < (ledger_of h).geometry.extents
  pub begun : (e : ℕ) → (standing_of h).shelf.current ≡ Some e → 1 ≤ offset_at (standing_of h).shelf.extents e

-- so it is in each legal history
abbrev pub StandingsAgree : Type 0
StandingsAgree = (h : History) → IsLegalHistory h → Agrees h
