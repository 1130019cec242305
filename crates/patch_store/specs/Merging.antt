-- Which merges of a plan are made, and how many a history left out.
use Rattle.std.specs.Prelude.{ℕ, ◌≡◌, ◌+◌, min, List, [], ◌∷◌, length, map, take, fold, Option, Some, None}
use Rattle.patch_model.specs.Step.{Step}
use Rattle.patch_model.specs.Execution.{Execution, extended, followed_by}
use Rattle.patch_model.specs.Progress.{MayFollow}
use Rattle.patch_extent.specs.declared.places.MergeOutcome.{MergeOutcome}
use Rattle.patch_extent.specs.declared.places.MergeOutcome.TheVariants as merge
use Rattle.patch_extent.specs.Merging.{is_made}
use Rattle.patch_plans.specs.Writing.{Written, written, steps_by}
use Rattle.patch_history.specs.StoreState.{Standing, at_opening, made_by, plan_of}
use Rattle.patch_history.specs.History.{History, Event, Call, Moved, after_event}

-- there is a merge behind the patch, and it may come
abbrev pub MayCome : Execution → Option Step → Type 0
MayCome run None = ⊥
MayCome run (Some step) = MayFollow run step

-- It is made just where it is legal, unless there was no memory for it.
abbrev pub IsRight : Execution → Option Step → MergeOutcome → Type 0
IsRight run step merge.Made = MayCome run step
IsRight run step merge.NotLegal = MayCome run step → ⊥
IsRight run step merge.NoMemory = MayCome run step

-- so is the merge of each of some first patches of a plan, where it would come
abbrev pub AreRight : Execution → List MergeOutcome → List Written → Type 0
AreRight run [] ws = Unit {0}
AreRight run (o ∷ outcomes) [] = ⊥
AreRight run (o ∷ outcomes) (w ∷ ws) =
    IsRight (extended run w.create) w.merge o × AreRight (followed_by run (steps_by (is_made o ∷ []) (w ∷ []))) outcomes ws

-- a count of merges that had no memory, with one more where this had none; it stays at the largest number
abbrev pub counted_with : ℕ → MergeOutcome → ℕ
counted_with count merge.Made = count
counted_with count merge.NotLegal = count
counted_with count merge.NoMemory = min (count + 1) 4294967295

-- The steps are those of some first patches of a plan, or of all, one for each outcome, with just those of their merges that are
-- legal where they come; each one that had no memory was counted.
pub record HasMerged (run : Execution) (ws : List Written) (steps : List Step) (before after : ℕ) : Type 0 where
  pub outcomes : List MergeOutcome
  pub right : AreRight run outcomes ws
  pub steps_are : steps ≡ steps_by (map is_made outcomes) (take (length outcomes) ws)
  pub counted : after ≡ fold counted_with before outcomes

-- How an event is counted: a call by the merges of its plan that had no memory, a write not at all.
abbrev pub Counts : Standing → Event → (before after : ℕ) → Type 0
Counts st (Call writer command reply steps) before after =
    HasMerged st.run (written st.shelf.extents (made_by st) (plan_of st writer command)) steps before after
Counts st (Moved step) before after = after ≡ before

-- and some events, one after another
abbrev pub AreCounted : Standing → List Event → (before after : ℕ) → Type 0
AreCounted st [] before after = after ≡ before
AreCounted st (event ∷ events) before after =
    (between : ℕ) × Counts st event before between × AreCounted (after_event st event) events between after

-- So many merges of the history were left out for want of memory. Every other one was made just where it is legal.
abbrev pub LeavesOut : History → ℕ → Type 0
LeavesOut h count = AreCounted (at_opening h.opening h.first) h.events 0 count
