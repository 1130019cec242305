-- Which histories a store represents.
use Rattle.std.specs.Prelude.{ℕ, ◌≡◌, ◌<◌, IfSome, List, ◌++◌, length}
use Rattle.patch_model.specs.Step.{Step}
use Rattle.patch_cache.specs.Contents.{Contents}
use Rattle.patch_cache.specs.Meaning.{IsCacheOf}
use Rattle.patch_frame.specs.Geometry.{IsGeometry, slot_count}
use Rattle.patch_plans.specs.Groups.{Groups}
use Rattle.patch_history.specs.Command.{Command, Reply}
use Rattle.patch_history.specs.Shelf.{Shelf}
use Rattle.patch_history.specs.History.{History, Event, Call, IsLegalHistory, IsRight, execution_of, standing_of, steps_in}
use Rattle.patch_history.specs.History.{with_event}
use Rattle.patch_store.specs.Merging.{Counts, LeavesOut}

-- a store: its cache, its groups and its shelf, and how many merges of pointer patches were left out for want of memory
pub record Store : Type 0 where
  pub cache : Contents
  pub groups : Groups
  pub shelf : Shelf
  pub left_out : ℕ

-- the disk is divided as one may be; each slot of the index is kept, and of each extent what has left it; the current
-- extent is one of the disk
pub record IsWhole (s : Shelf) : Type 0 where
  pub geometry : IsGeometry s.extents.geometry
  pub slots : length s.slots ≡ slot_count s.extents.geometry
  pub left : length s.left ≡ s.extents.geometry.extents
  pub current : IfSome s.current (λ extent. extent < s.extents.geometry.extents)

-- The history is legal, and the store's cache represents its execution. Groups and shelf are those that it leads to. Each merge
-- of a pointer patch was made in it just where it is legal, but for those that the store has counted, which had no memory. What
-- stands in the trace has no part in this: it may be drained.
pub record IsStoreOf (s : Store) (h : History) : Type 0 where
  pub legal : IsLegalHistory h
  pub cache_is : IsCacheOf s.cache (execution_of h)
  pub groups_are : s.groups ≡ (standing_of h).groups
  pub shelf_is : s.shelf ≡ (standing_of h).shelf
  pub left_out_is : LeavesOut h s.left_out

-- The event is right behind the history, the store represents the history with it, and the trace has its steps. The merges that it
-- left out were counted.
pub record HasGained (h : History) (event : Event) (old new : Store) : Type 0 where
  pub right : IsRight (standing_of h) event
  pub represents : IsStoreOf new (with_event h event)
  pub trace_is : new.cache.trace ≡ old.cache.trace ++ steps_in event
  pub counts : Counts (standing_of h) event old.left_out new.left_out

-- A call was answered so: with some steps it is right behind the history.
pub record HasAnswered (h : History) (writer : ℕ) (command : Command) (reply : Reply) (old new : Store) : Type 0 where
  pub steps : List Step
  pub gained : HasGained h (Call writer command reply steps) old new

-- so it was, behind each history that the store represented
abbrev pub Answers : (writer : ℕ) → Command → Reply → (old new : Store) → Type 0
Answers writer command reply old new = (h : History) → IsStoreOf old h → HasAnswered h writer command reply old new
