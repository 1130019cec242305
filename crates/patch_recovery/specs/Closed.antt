-- What every closed set of the store's patches leaves.
use Rattle.std.specs.Prelude.{ℕ, Bool, true, ◌≡◌, ◌==◌, ◌&&◌, List, length, map, Option, Ok}
use Rattle.std.specs.List.{list_any, range_with_len}
use Rattle.patch_model.specs.Execution.{Execution}
use Rattle.patch_model.specs.Entry.{Entry}
use Rattle.patch_model.specs.State.{entries_of}
use Rattle.patch_model.specs.History.{history_of, cached}
use Rattle.patch_model.specs.Crash.{IsClosed, MayLeave, crash_set, disk_of}
use Rattle.patch_model.specs.Renewed.{cached_blocks}
use Rattle.patch_model.specs.Legal.{IsLegal}
use Rattle.patch_recovery.specs.Change.{Made}
use Rattle.patch_recovery.specs.Ledger.{Ledger, after_all, after_those, map_of, value_in, SaysSame}
use Rattle.patch_recovery.specs.Reading.{reading, map_read}
use Rattle.patch_recovery.specs.Right.{IsSound}
use Rattle.patch_recovery.specs.Said.{last_said, AreMoves, last_word_kept}
use Rattle.patch_recovery.specs.Store.{IsOfStore}

-- the number is that of a patch of the set
abbrev pub in_set : List Entry → (Entry → Bool) → ℕ → Bool
in_set all set number = list_any (λ e. e.patch.no == number && set e) all

-- the ledger of the changes whose patches are in the set
abbrev pub ledger_of : Execution → (Entry → Bool) → Ledger → List Made → Ledger
ledger_of run set first made = after_those (in_set (entries_of run) set) first made

-- The disk is read as a ledger that says the same as this one, which is sound. So it is read as the map of this one, in
-- which each key has this value.
pub record Opens (disk : List (List ℕ)) (says : Ledger) (value : List ℕ → Option (List ℕ)) : Type 0 where
  pub l : Ledger
  pub read : reading disk ≡ Ok l
  pub same : SaysSame l says
  pub sound : IsSound says
  pub map : map_read disk ≡ Ok (map_of says)
  pub tells : (key : List ℕ) → value_in (map_of says) key ≡ value key

-- whatever closed set of the patches reached the disk, it opens, and says what their changes alone leave: of each key
-- what the last of them that speaks of it says, as it was said where it was made
abbrev pub ClosedDisksOpen : Type 0
ClosedDisksOpen =
    (run : Execution) (first : Ledger) (made : List Made) (set : Entry → Bool)
    → IsOfStore run first made → IsClosed (entries_of run) set
    → Opens (disk_of run set) (ledger_of run set first made) (last_said (in_set (entries_of run) set) first made)

-- and whichever changes are known to be moves, in its map each key has the value of its last put or delete that is in
-- the set, or a later move of which is; where there is none, it has its first value
abbrev pub ClosedDisksHaveWords : Type 0
ClosedDisksHaveWords =
    (run : Execution) (first : Ledger) (made : List Made) (set : Entry → Bool) (moves : ℕ → Bool)
    → IsOfStore run first made → IsClosed (entries_of run) set → AreMoves moves first made
    → Opens (disk_of run set) (ledger_of run set first made)
    (last_word_kept (in_set (entries_of run) set) moves first made)

-- so a disk that a crash leaves opens, and says what the changes that had reached it leave
abbrev pub CrashDisksOpen : Type 0
CrashDisksOpen =
    (run : Execution) (first : Ledger) (made : List Made) (disk : List (List ℕ)) (crash : MayLeave run disk)
    → IsLegal run → IsOfStore run first made
    → Opens disk (ledger_of run (crash_set crash.landed) first made)
    (last_said (in_set (entries_of run) (crash_set crash.landed)) first made)

-- and each key has the value of its last put or delete that had reached the disk, or a later move of which had
abbrev pub CrashDisksHaveWords : Type 0
CrashDisksHaveWords =
    (run : Execution) (first : Ledger) (made : List Made) (disk : List (List ℕ)) (crash : MayLeave run disk)
    (moves : ℕ → Bool) → IsLegal run → IsOfStore run first made → AreMoves moves first made
    → Opens disk (ledger_of run (crash_set crash.landed) first made)
    (last_word_kept (in_set (entries_of run) (crash_set crash.landed)) moves first made)

-- the cached blocks say what all changes leave, and of each key what the last of all says
abbrev pub CachedBlocksOpen : Type 0
CachedBlocksOpen =
    (run : Execution) (first : Ledger) (made : List Made) → IsOfStore run first made
    → Opens (cached_blocks run) (after_all first made) (last_said (λ number. true) first made)
