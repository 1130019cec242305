-- How frames move ahead of need: a few behind a put, out of the extent that is won back next.
use Rattle.std.specs.Prelude.{ℕ, Some, None, ◌≡◌, ◌+◌, ◌-◌, ◌*◌, ◌/◌, ◌<◌, ◌≤◌, ◌⊎◌, List, [], ◌∷◌, length, drop, MatchBool, Option, Result, Ok, Err, OnOk}
use Rattle.std.specs.Prelude.{nat_le, if◌then◌else◌}
use Rattle.patch_model.specs.Step.{Step}
use Rattle.patch_plans.specs.Extents.{offset_at}
use Rattle.patch_history.specs.declared.refusals.ReclaimRefusal.{ReclaimRefusal}
use Rattle.patch_history.specs.Choosing.{empty_extents, live_frames}
use Rattle.patch_history.specs.Command.{Reply, Reclaim, is_refused}
use Rattle.patch_history.specs.History.{History, Event, Call, with_event}
use Rattle.patch_history.specs.Shelf.{Shelf}
use Rattle.patch_store.specs.declared.stepping.Reclaimed.{Reclaimed}
use Rattle.patch_store.specs.Meaning.{Store, IsStoreOf, Answers}
use Rattle.patch_store.specs.Stepping.{reply_of_some}
use Rattle.patch_room.specs.declared.ahead.TheConstants.{MOST_AHEAD, FEWEST_EXTENTS, MANY_EXTENTS, SPARE_PART, EVERY_FRAME}
use Rattle.patch_room.specs.Laws.{shelf_in}
use Rattle.patch_room.specs.Room.{extent_count, extent_bytes, live_in, IsCheapest}

-- the bytes that the current extent has left, if one is current
abbrev pub room_left : Shelf → ℕ
room_left s = elim s.current [ Some extent ↦ extent_bytes s - offset_at s.extents extent | None ↦ 0 ]

-- Of frames of equal lengths the fewest that have to move with each put, so that the live bytes have moved before the current extent
-- is full, which has so many to spare beside them; but no more than the most.
pub record IsPace (live spare count : ℕ) : Type 0 where
  pub few : count ≤ MOST_AHEAD
  pub enough : (live ≤ count * spare) ⊎ (count ≡ MOST_AHEAD)
  pub fewest : (fewer : ℕ) → fewer < count → fewer * spare < live

-- how many extents stay empty, for what a crash leaves: two where there are many, or one
abbrev pub kept_empty : Shelf → ℕ
kept_empty s = if nat_le MANY_EXTENTS (extent_count s) then 2 else 1

-- so many bytes of an extent are to be won at least, and so few are left of one that is soon full, where there are many: a part of it
abbrev pub least_spare : Shelf → ℕ
least_spare s = if nat_le MANY_EXTENTS (extent_count s) then extent_bytes s / SPARE_PART else 0

-- How many frames move of an extent with so many live bytes, where the current one has so many left.

-- it has room for them, and more to spare than is filled soon
pub record IsPaced (least left live count : ℕ) : Type 0 where
  pub fits : live ≤ left
  pub later : least ≤ left - live
  pub pace : IsPace live (left - live) count

-- it has room for them, but is soon full: all move
pub record IsUrgent (least left live count : ℕ) : Type 0 where
  pub fits : live ≤ left
  pub soon : left - live < least
  pub all : count ≡ EVERY_FRAME

-- it has no room for them, but two extents or more are empty: all move, and one of those is taken
pub record IsRestored (left empty live count : ℕ) : Type 0 where
  pub full : left < live
  pub two : 2 ≤ empty
  pub all : count ≡ EVERY_FRAME

abbrev pub IsShare : (least left empty live count : ℕ) → Type 0
IsShare least left empty live count = IsPaced least left live count ⊎ IsUrgent least left live count ⊎ IsRestored left empty live count

-- The disk isn't a small one, no more extents are empty than are kept, and this is the one to win back next, which is worth it, and of
-- which so many frames move.
pub record IsTimely (s : Shelf) (extent count : ℕ) : Type 0 where
  pub large : FEWEST_EXTENTS ≤ extent_count s
  pub few : length (empty_extents s) ≤ kept_empty s
  pub cheapest : IsCheapest s extent
  pub worth : live_in s extent + least_spare s ≤ extent_bytes s
  pub share : IsShare (least_spare s) (room_left s) (length (empty_extents s)) (live_in s extent) count

-- it is not time
abbrev pub NoneTimely : Shelf → Type 0
NoneTimely s = (extent count : ℕ) → IsTimely s extent count → ⊥

-- So many first live frames have left the extent, at most, and the others are its live ones.
pub record FewLeave (extent most : ℕ) (before after : Shelf) : Type 0 where
  pub frames : ℕ
  pub few : frames ≤ most
  pub others : live_frames after extent ≡ drop frames (live_frames before extent)

-- the history with a reclaim that is begun, or that empties the extent
abbrev pub with_step : History → (writer extent : ℕ) → Reply → List Step → History
with_step h writer extent reply steps = with_event h (Call writer (Reclaim extent) reply steps)

-- The call that moves frames ahead: so many, unless it was refused or memory ran out.
pub record IsAhead (h : History) (writer : ℕ) (ahead : List Event) : Type 0 where
  pub extent : ℕ
  pub count : ℕ
  pub timely : IsTimely (shelf_in h) extent count
  pub reply : Reply
  pub steps : List Step
  pub few : FewLeave extent count (shelf_in h) (shelf_in (with_step h writer extent reply steps))
  pub ahead_is : ahead ≡ Call writer (Reclaim extent) reply steps ∷ []

-- it was made, unless it was not time, and none was
abbrev pub StepsAhead : History → (writer : ℕ) → List Event → Type 0
StepsAhead h writer ahead = (NoneTimely (shelf_in h) × (ahead ≡ [])) ⊎ IsAhead h writer ahead

-- behind a put with this reply: none is made behind one that was refused
abbrev pub GoesAhead : History → (writer : ℕ) → Reply → List Event → Type 0
GoesAhead h writer reply ahead = MatchBool (is_refused reply) (ahead ≡ []) (StepsAhead h writer ahead)

-- What becomes of a store.

-- it was not time, and nothing has happened
pub record IsNotTimely (old new : Store) : Type 0 where
  pub none : NoneTimely old.shelf
  pub same : new ≡ old

-- So many frames were to move, and did, unless the step was refused, or memory ran out, and fewer did.
pub record HasGoneAhead (result : Result Reclaimed ReclaimRefusal) (old new : Store) : Type 0 where
  pub extent : ℕ
  pub count : ℕ
  pub timely : IsTimely old.shelf extent count
  pub answer : (writer : ℕ) → Answers writer (Reclaim extent) (reply_of_some result) old new
  pub moved : (h : History) → IsStoreOf old h → OnOk result (live_frames new.shelf extent ≡ drop count (live_frames old.shelf extent))
  pub few : (h : History) → IsStoreOf old h → FewLeave extent count old.shelf new.shelf

abbrev pub MovesAhead : Result (Option Reclaimed) ReclaimRefusal → (old new : Store) → Type 0
MovesAhead (Ok None) old new = IsNotTimely old new
MovesAhead (Ok (Some reclaimed)) old new = HasGoneAhead (Ok reclaimed) old new
MovesAhead (Err refusal) old new = HasGoneAhead (Err refusal) old new
