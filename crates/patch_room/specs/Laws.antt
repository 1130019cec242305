-- Laws of the room of a disk.
use Rattle.std.specs.Prelude.{ℕ, ◌≡◌, ◌≢◌, ◌+◌, ◌≤◌, List, length, Some, None}
use Rattle.patch_model.specs.Step.{Step}
use Rattle.patch_recovery.specs.Change.{Made}
use Rattle.patch_plans.specs.Room.{why_no_room}
use Rattle.patch_history.specs.Choosing.{live_frames, extent_for_put}
use Rattle.patch_history.specs.Command.{Put, Reclaim, Done}
use Rattle.patch_history.specs.History.{History, Call, IsLegalHistory, IsRight, standing_of, with_event}
use Rattle.patch_history.specs.Planning.{moves, emptied}
use Rattle.patch_history.specs.Refusing.{why_not_reclaimed}
use Rattle.patch_history.specs.Shelf.{Shelf}
use Rattle.patch_history.specs.StoreState.{Standing, made_by, live_of}
use Rattle.patch_room.specs.Room.{extent_bytes, live_in, bytes_of, HasEmpty, MayBeWon, NoneWorthWinning, IsFull}

-- the frames that a reclaim moves have together the bytes that are live in the extent
abbrev pub LiveBytesAreOfFrames : Type 0
LiveBytesAreOfFrames = (s : Shelf) (extent : ℕ) → bytes_of (live_frames s extent) ≡ live_in s extent

-- the shelf of a history
abbrev pub shelf_in : History → Shelf
shelf_in h = (standing_of h).shelf

-- All frames of the extent find room, and nothing stands against its reclaim but that there may be no room for the patches.
pub record CanBeWon (st : Standing) (extent : ℕ) : Type 0 where
  pub moved : List Made
  pub moved_is : moves st.map.entries st.shelf (made_by st) (live_frames st.shelf extent) ≡ Some moved
  pub why : why_not_reclaimed st extent ≡ why_no_room (made_by st) (live_of st) (length (emptied st.shelf (made_by st) extent moved))

-- so it is where an extent is empty, and the bytes that are live in this one fit an extent
abbrev pub ReclaimsFit : Type 0
ReclaimsFit =
    (h : History) (extent : ℕ) → IsLegalHistory h → HasEmpty (shelf_in h) → MayBeWon (shelf_in h) extent
    → live_in (shelf_in h) extent ≤ extent_bytes (shelf_in h) → CanBeWon (standing_of h) extent

-- the history with a reclaim that was done
abbrev pub with_reclaim : History → (writer extent : ℕ) → List Step → History
with_reclaim h writer extent steps = with_event h (Call writer (Reclaim extent) Done steps)

-- behind such a reclaim a frame finds an extent, if it fits one beside the bytes that were live
abbrev pub PutsFitBehind : Type 0
PutsFitBehind =
    (h : History) (writer extent len : ℕ) (steps : List Step) → IsLegalHistory h → HasEmpty (shelf_in h)
    → MayBeWon (shelf_in h) extent → live_in (shelf_in h) extent + len ≤ extent_bytes (shelf_in h)
    → IsRight (standing_of h) (Call writer (Reclaim extent) Done steps)
    → extent_for_put (shelf_in (with_reclaim h writer extent steps)) len ≢ None

-- behind each reclaim that was done an extent is empty
abbrev pub ReclaimsEmpty : Type 0
ReclaimsEmpty =
    (h : History) (writer extent : ℕ) (steps : List Step) → IsLegalHistory h
    → IsRight (standing_of h) (Call writer (Reclaim extent) Done steps)
    → HasEmpty (shelf_in (with_reclaim h writer extent steps))

-- and behind each put that was done, if one was before
abbrev pub PutsKeepEmpty : Type 0
PutsKeepEmpty =
    (h : History) (writer : ℕ) (key value : List ℕ) (steps : List Step) → IsLegalHistory h → HasEmpty (shelf_in h)
    → IsRight (standing_of h) (Call writer (Put key value) Done steps)
    → HasEmpty (shelf_in (with_event h (Call writer (Put key value) Done steps)))

-- where a frame that fits an extent finds none, and none is worth winning back, the disk is full
abbrev pub DisksAreFull : Type 0
DisksAreFull =
    (h : History) (len : ℕ) → IsLegalHistory h → len ≤ extent_bytes (shelf_in h)
    → extent_for_put (shelf_in h) len ≡ None → NoneWorthWinning (shelf_in h) len → IsFull (shelf_in h) len
