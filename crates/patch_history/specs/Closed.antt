-- What every closed set of a history's patches leaves.
use Rattle.std.specs.Prelude.{ℕ, Bool, true, false, List, [], ◌∷◌, ◌++◌, map, take, slice_index_or, Option}
use Rattle.patch_model.specs.Entry.{Entry}
use Rattle.patch_model.specs.State.{entries_of}
use Rattle.patch_model.specs.Crash.{IsClosed, MayLeave, crash_set, disk_of}
use Rattle.patch_recovery.specs.Change.{Change, Fill, Made}
use Rattle.patch_recovery.specs.Said.{AreMoves, last_word_kept}
use Rattle.patch_recovery.specs.Closed.{Opens, in_set, ledger_of}
use Rattle.patch_history.specs.Command.{Command, Reclaim}
use Rattle.patch_history.specs.StoreState.{Standing, creates, at_opening, plan_of}
use Rattle.patch_history.specs.History.{History, Event, Call, Moved, IsLegalHistory, after_event, execution_of}
use Rattle.patch_history.specs.History.{standing_of}

abbrev pub is_fill : Change → Bool
is_fill (Fill slot fields) = true
is_fill _ = false

-- the change moves an entry: a reclaim fills slots that have their keys already, with frames of the same values
abbrev pub moves_entry : Command → Made → Bool
moves_entry (Reclaim extent) m = is_fill m.change
moves_entry _ m = false

-- of each patch that an event makes, in order, whether it does
abbrev pub marks_in : Standing → Event → List Bool
marks_in st (Call writer command reply steps) =
    map (moves_entry command) (take (creates steps) (plan_of st writer command))
marks_in st (Moved step) = []

-- of each patch that some events make
abbrev pub marks_from : Standing → List Event → List Bool
marks_from st [] = []
marks_from st (event ∷ events) = marks_in st event ++ marks_from (after_event st event) events

-- the patch of this number moves an entry
abbrev pub is_move : History → ℕ → Bool
is_move h number = slice_index_or (marks_from (at_opening h.opening h.first) h.events) number false

-- these patches are moves: each key has by them the value that it has
abbrev pub HistoriesMove : Type 0
HistoriesMove = (h : History) → IsLegalHistory h → AreMoves (is_move h) h.first (standing_of h).made

-- the value of each key by its last put or delete whose patch is in the set, or a later move of which is; where there is
-- none, its value at opening
abbrev pub words_of : History → (Entry → Bool) → List ℕ → Option (List ℕ)
words_of h set =
    last_word_kept (in_set (entries_of (execution_of h)) set) (is_move h) h.first (standing_of h).made

-- The disk opens, and says what the changes of the set leave; each key has its value by the last of those words.
abbrev pub OpensBy : History → (Entry → Bool) → List (List ℕ) → Type 0
OpensBy h set disk = Opens disk (ledger_of (execution_of h) set h.first (standing_of h).made) (words_of h set)

-- so does the disk of every closed set
abbrev pub ClosedDisksOpen : Type 0
ClosedDisksOpen =
    (h : History) (set : Entry → Bool) → IsLegalHistory h → IsClosed (entries_of (execution_of h)) set
    → OpensBy h set (disk_of (execution_of h) set)

-- and every disk that a crash may leave
abbrev pub CrashDisksOpen : Type 0
CrashDisksOpen =
    (h : History) (disk : List (List ℕ)) (crash : MayLeave (execution_of h) disk) → IsLegalHistory h
    → OpensBy h (crash_set crash.landed) disk
