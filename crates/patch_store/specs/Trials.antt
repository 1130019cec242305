-- Extents as some moves would leave them, before any of them is made.
use Rattle.std.specs.Prelude.{ℕ, ◌≡◌, ◌<◌, ◌==◌, not, List, filter, length, Option, Some, None, IfSome, MatchOption, option_map}
use Rattle.patch_frame.specs.Frame.{Content, spelling}
use Rattle.patch_frame.specs.Geometry.{largest_pointer}
use Rattle.patch_plans.specs.Extents.{offset_at}
use Rattle.patch_history.specs.Choosing.{empty_extents, extent_for_move, live_frames}
use Rattle.patch_history.specs.Planning.{frame_plan, moves}
use Rattle.patch_history.specs.Shelf.{Shelf, after_plan}
use Rattle.patch_history.specs.StoreState.{Standing, made_by}
use Rattle.patch_store.specs.declared.trials.Filled.{Filled}
use Rattle.patch_store.specs.declared.trials.Trial.{Trial}

abbrev pub extent_of : Filled → ℕ
extent_of f = f.extent

-- it is one of the disk's, filled so far, and not empty
pub record IsFilled (s : Shelf) (f : Filled) : Type 0 where
  pub known : f.extent < s.extents.geometry.extents
  pub offset : f.offset ≡ offset_at s.extents f.extent
  pub some : 0 < f.offset

-- a trial says of the current extent and of the empty ones what the shelf does
pub record Alike (s : Shelf) (t : Trial) : Type 0 where
  pub largest : t.largest ≡ largest_pointer s.extents.geometry.format
  pub current : option_map extent_of t.current ≡ s.current
  pub filled : IfSome t.current (IsFilled s)
  pub empty : t.empty.now ≡ empty_extents s
  pub each : length s.extents.each ≡ s.extents.geometry.extents

-- the empty extents without one
abbrev pub empty_but : Shelf → (extent : ℕ) → List ℕ
empty_but s extent = filter (λ e. not (e == extent)) (empty_extents s)

-- The place of a frame: its extent is the one that a move takes, and no empty one in the trial.
pub record IsPlace (s : Shelf) (len : ℕ) (place : Filled) (new : Trial) : Type 0 where
  pub chosen : extent_for_move s len ≡ Some place.extent
  pub known : place.extent < s.extents.geometry.extents
  pub offset : place.offset ≡ offset_at s.extents place.extent
  pub largest : new.largest ≡ largest_pointer s.extents.geometry.format
  pub left : new.empty.now ≡ empty_but s place.extent

-- or there is none
abbrev pub Places : Shelf → (len : ℕ) → Option Filled → (new : Trial) → Type 0
Places s len result new = MatchOption result (extent_for_move s len ≡ None) (λ place. IsPlace s len place new)

-- A frame of so many bytes finds room, by a plan of so many patches. The trial says then what the shelf does behind that.
pub record FindsRoom (s : Shelf) (len patches : ℕ) (new : Trial) : Type 0 where
  pub extent : ℕ
  pub chosen : extent_for_move s len ≡ Some extent
  pub count : (n slot : ℕ) (c : Content) → length (spelling c) ≡ len → length (frame_plan s n extent slot c) ≡ patches
  pub behind : (n slot : ℕ) (c : Content) → length (spelling c) ≡ len → Alike (after_plan s n (frame_plan s n extent slot c)) new

-- or none
abbrev pub Tries : (len : ℕ) → Option ℕ → (old new : Trial) → Type 0
Tries len result old new = (s : Shelf) → Alike s old
    → MatchOption result (extent_for_move s len ≡ None) (λ patches. FindsRoom s len patches new)

-- how many patches the moves of a reclaim make, unless one of them finds no room
abbrev pub moving_patches : Standing → (extent : ℕ) → Option ℕ
moving_patches st extent = option_map length (moves st.map.entries st.shelf (made_by st) (live_frames st.shelf extent))
