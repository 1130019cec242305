-- Laws of stores.
use Rattle.std.specs.Prelude.{ℕ, Bool, ◌≡◌, List}
use Rattle.patch_model.specs.Entry.{Entry}
use Rattle.patch_model.specs.State.{entries_of}
use Rattle.patch_model.specs.Crash.{IsClosed, MayLeave, crash_set, disk_of}
use Rattle.patch_recovery.specs.Ledger.{value_in}
use Rattle.patch_recovery.specs.Closed.{Opens}
use Rattle.patch_model.specs.Renewed.{cached_blocks}
use Rattle.patch_history.specs.Closed.{OpensBy}
use Rattle.patch_history.specs.History.{History, IsLegalHistory, execution_of, standing_of, ledger_of}
use Rattle.patch_store.specs.Meaning.{Store, IsStoreOf}
use Rattle.patch_store.specs.Merging.{LeavesOut}

-- the cached blocks are read as the map of the commands that were done
abbrev pub CachedDisksOpen : Type 0
CachedDisksOpen =
    (s : Store) (h : History) → IsStoreOf s h
    → Opens (cached_blocks (execution_of h)) (ledger_of h) (value_in (standing_of h).map.entries)

-- the disk of every closed set opens
abbrev pub ClosedDisksOpen : Type 0
ClosedDisksOpen =
    (s : Store) (h : History) (set : Entry → Bool) → IsStoreOf s h → IsClosed (entries_of (execution_of h)) set
    → OpensBy h set (disk_of (execution_of h) set)

-- and so does every disk that a crash may leave
abbrev pub CrashDisksOpen : Type 0
CrashDisksOpen =
    (s : Store) (h : History) (disk : List (List ℕ)) (crash : MayLeave (execution_of h) disk) → IsStoreOf s h
    → OpensBy h (crash_set crash.landed) disk

-- stores that represent one history have counted as many merges that had no memory
abbrev pub CountsAgree : Type 0
CountsAgree = (one other : Store) (h : History) → IsStoreOf one h → IsStoreOf other h → one.left_out ≡ other.left_out

-- legal histories of the same opening blocks and the same steps have left out as many merges for want of memory
abbrev pub CountsAreSingle : Type 0
CountsAreSingle =
    (h other : History) (count : ℕ) → IsLegalHistory h → IsLegalHistory other → execution_of h ≡ execution_of other
    → LeavesOut h count → LeavesOut other count

-- so a store represents, with one history, each legal one of the same blocks and steps that leads to the same groups
abbrev pub StoresAreOfSteps : Type 0
StoresAreOfSteps =
    (s : Store) (h other : History) → IsStoreOf s h → IsLegalHistory other → execution_of other ≡ execution_of h
    → (standing_of other).groups ≡ (standing_of h).groups → IsStoreOf s other
