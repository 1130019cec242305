-- How an extent is won back: its live frames move, and it is emptied.
use Rattle.std.specs.Prelude.{ℕ, ◌≡◌, ◌≤◌, List, length, map, take, Some, None, Result, Ok, MatchResult, IfOk, Vec}
use Rattle.patch_model.specs.declared.refusals.OutOfMemory.{OutOfMemory}
use Rattle.patch_model.specs.Step.{Step}
use Rattle.patch_model.specs.Execution.{Execution}
use Rattle.patch_model.specs.State.{entries_of}
use Rattle.patch_frame.specs.declared.faults.FrameFault.{FrameFault}
use Rattle.patch_frame.specs.declared.geometries.Geometry.{Geometry}
use Rattle.patch_frame.specs.Frame.{Content, frame_at, length_of, spelling}
use Rattle.patch_frame.specs.Geometry.{value_limit}
use Rattle.patch_frame.specs.Slot.{SlotFields}
use Rattle.patch_recovery.specs.Change.{Made}
use Rattle.patch_extent.specs.Answers.{IsSettingOf, cached_bytes}
use Rattle.patch_plans.specs.Planning.{reset_plan}
use Rattle.patch_history.specs.Choosing.{extent_for_move, live_frames}
use Rattle.patch_history.specs.Command.{Reclaim}
use Rattle.patch_history.specs.History.{History, IsWhole, IsCut, standing_of}
use Rattle.patch_history.specs.Planning.{moves}
use Rattle.patch_history.specs.Refusing.{why_not_reclaimed}
use Rattle.patch_history.specs.Shelf.{Shelf, slot_at, left_of, after_plan}
use Rattle.patch_history.specs.StoreState.{Standing, made_by, plan_of}
use Rattle.patch_store.specs.Meaning.{Store, IsStoreOf}
use Rattle.patch_store.specs.Framing.{setting_of, framing, StandsBehind, IsFramed, IsFramedInPart}

-- the slots that name the live frames of an extent, in order of offset
abbrev pub live_slots : Shelf → ℕ → List ℕ
live_slots s extent = map (λ (f : ℕ × SlotFields). f.0) (live_frames s extent)

-- A frame that moves.

-- the store stands so
pub record IsStanding (st : Standing) (s : Store) : Type 0 where
  pub setting_is : IsSettingOf (setting_of s) st.run
  pub groups_are : s.groups ≡ st.groups
  pub shelf_is : s.shelf ≡ st.shelf
  pub counted : length (entries_of st.run) ≡ made_by st

-- what is read in the cached blocks at the place that a slot names
abbrev pub frame_cached : Geometry → Execution → SlotFields → Result Content FrameFault
frame_cached g run f = frame_at (value_limit g.format) (cached_bytes g run f.extent f.offset f.length)

-- a frame of this content, which has just the slot's length and its key
pub record IsCached (g : Geometry) (run : Execution) (f : SlotFields) (c : Content) : Type 0 where
  pub frame : frame_cached g run f ≡ Ok c
  pub key : c.key ≡ f.key
  pub length : length_of c ≡ f.length

-- the bytes of the frame at a slot's place, whatever execution the store stands for
abbrev pub CopiesFrame : {A : Type 0} → Store → SlotFields → Result (Vec ℕ A) OutOfMemory → Type 0
CopiesFrame s f result =
    (run : Execution) (c : Content) → IsSettingOf (setting_of s) run → IsCached s.shelf.extents.geometry run f c
    → IfOk result (λ frame. frame.items ≡ spelling c)

-- the slot names a frame of this content, which goes to this extent
pub record IsMovable (st : Standing) (slot extent : ℕ) (c : Content) (s : Store) : Type 0 where
  pub standing : IsStanding st s
  pub fields : SlotFields
  pub used : slot_at st.shelf slot ≡ Some fields
  pub extent_is : extent_for_move st.shelf fields.length ≡ Some extent
  pub cached : IsCached s.shelf.extents.geometry st.run fields c

-- it is appended there and named by the slot, or begun, where memory ran out
abbrev pub MovesFrame : (slot : ℕ) → Result (Unit {0}) OutOfMemory → (old new : Store) → Type 0
MovesFrame slot result old new =
    (st : Standing) (extent : ℕ) (c : Content) → IsMovable st slot extent c old → MatchResult result
    (λ _. IsFramed (framing st None slot extent c) old new)
    (λ _. IsFramedInPart (framing st None slot extent c) old new)

-- An extent that is emptied.

-- its reset, behind the slot patches that took an entry from it
abbrev pub reset_of : Shelf → (extent : ℕ) → List Made
reset_of s extent = reset_plan s.extents extent (left_of s extent)

-- the store stands behind it
pub record IsEmptied (st : Standing) (extent : ℕ) (old new : Store) : Type 0 where
  pub steps : List Step
  pub whole : IsWhole st (reset_of st.shelf extent) steps
  pub stands : StandsBehind st None (reset_of st.shelf extent) steps old new

-- or it was not made, and nothing has changed
abbrev pub EmptiesExtent : (extent : ℕ) → Result (Unit {0}) OutOfMemory → (old new : Store) → Type 0
EmptiesExtent extent result old new = MatchResult result
    (λ _. (st : Standing) → IsStanding st old → IsEmptied st extent old new) (λ _. new ≡ old)

-- All live frames of an extent that move.

-- the store represents the history, nothing stands against the reclaim, and these are the slots
pub record IsReclaiming (h : History) (extent : ℕ) (slots : List ℕ) (s : Store) : Type 0 where
  pub represents : IsStoreOf s h
  pub no_cause : why_not_reclaimed (standing_of h) extent ≡ None
  pub slots_are : slots ≡ live_slots (standing_of h).shelf extent

-- the store stands behind the moves of these frames
pub record HaveMoved (h : History) (frames : List (ℕ × SlotFields)) (old new : Store) : Type 0 where
  pub moved : List Made
  pub moved_is : moves (standing_of h).map.entries (standing_of h).shelf (made_by (standing_of h)) frames ≡ Some moved
  pub steps : List Step
  pub whole : IsWhole (standing_of h) moved steps
  pub stands : StandsBehind (standing_of h) None moved steps old new

-- all that a reclaim makes: it has no writer
abbrev pub plan_at : History → (extent : ℕ) → List Made
plan_at h extent = plan_of (standing_of h) 0 (Reclaim extent)

-- the store stands behind some first steps of a reclaim
pub record IsReclaimedInPart (h : History) (extent : ℕ) (old new : Store) : Type 0 where
  pub steps : List Step
  pub cut : IsCut (standing_of h) (plan_at h extent) steps
  pub stands : StandsBehind (standing_of h) None (plan_at h extent) steps old new

-- The shelf is as some first patches of the moves of some first frames of the extent leave it, at most so many frames.
pub record HasMovedWithin (h : History) (extent most : ℕ) (new : Store) : Type 0 where
  pub frames : ℕ
  pub few : frames ≤ most
  pub moved : List Made
  pub moved_is : moves (standing_of h).map.entries (standing_of h).shelf (made_by (standing_of h))
      (take frames (live_frames (standing_of h).shelf extent)) ≡ Some moved
  pub count : ℕ
  pub shelf_is : new.shelf ≡ after_plan (standing_of h).shelf (made_by (standing_of h)) (take count moved)

-- The frames of so many first slots move, one after another. Where memory ran out the reclaim is begun, within their moves.
abbrev pub MovesFrames : (slots : List ℕ) (count : ℕ) → Result (Unit {0}) OutOfMemory → (old new : Store) → Type 0
MovesFrames slots count result old new =
    (h : History) (extent : ℕ) → IsReclaiming h extent slots old → MatchResult result
    (λ _. HaveMoved h (take count (live_frames (standing_of h).shelf extent)) old new)
    (λ _. IsReclaimedInPart h extent old new × HasMovedWithin h extent count new)
