-- How a store stands after some calls.
use Rattle.std.specs.Prelude.{ℕ, suc, List, [], ◌∷◌, length, count_by, take, unwrap_or, Option, Some, None, if◌then◌else◌}
use Rattle.patch_model.specs.Step.{Step, Create}
use Rattle.patch_model.specs.Execution.{Execution, followed_by}
use Rattle.patch_model.specs.Entry.{is_live}
use Rattle.patch_model.specs.State.{entries_of}
use Rattle.patch_plans.specs.Groups.{Groups, no_groups, begun, engaged, disengaged, ordered, closed}
use Rattle.patch_recovery.specs.Change.{Made}
use Rattle.patch_recovery.specs.Ledger.{Ledger, map_of}
use Rattle.patch_plans.specs.Writing.{with_patches, named_plan}
use Rattle.patch_history.specs.Command.{Command, Reply, Put, Delete, Reclaim, Upgrade, Group, Engage, Disengage, Depend}
use Rattle.patch_history.specs.Command.{CloseGroup, is_refused}
use Rattle.patch_history.specs.Map.{Map, after_reply}
use Rattle.patch_history.specs.Shelf.{Shelf, opened, after_plan}
use Rattle.patch_history.specs.Planning.{put_plan, delete_plan, reclaim_plan, upgrade_plan}

-- the execution of its cache, its groups, its shelf, the map, and all changes, the newest first
pub record Standing : Type 0 where
  pub run : Execution
  pub groups : Groups
  pub shelf : Shelf
  pub map : Map
  pub made : List Made

-- how many patches were made
abbrev pub made_by : Standing → ℕ
made_by st = length st.made

-- and how many of them are live
abbrev pub live_of : Standing → ℕ
live_of st = count_by is_live (entries_of st.run)

-- a store as it is opened on blocks that read so
abbrev pub at_opening : List (List ℕ) → Ledger → Standing
at_opening blocks l = record {
  run = record { first = blocks; steps = [] };
  groups = no_groups;
  shelf = opened l;
  map = record { format = l.geometry.format; entries = map_of l };
  made = [];
}

-- who makes a command's patches: those of a reclaim and of an upgrade are of no writer
abbrev pub maker_of : ℕ → Command → Option ℕ
maker_of writer (Reclaim extent) = None
maker_of writer Upgrade = None
maker_of writer _ = Some writer

-- what a command makes where it is done, if it can be
abbrev pub plan_for : Standing → Command → Option (List Made)
plan_for st (Put key value) = put_plan st.shelf (made_by st) (record { key = key; value = value })
plan_for st (Delete key) = delete_plan st.shelf key
plan_for st (Reclaim extent) = reclaim_plan st.map.entries st.shelf (made_by st) extent
plan_for st Upgrade = Some upgrade_plan
plan_for st _ = Some []

-- the same with what the writer's groups make each patch name
abbrev pub plan_of : Standing → (writer : ℕ) → Command → List Made
plan_of st writer command =
    named_plan st.groups (maker_of writer command) (made_by st) (unwrap_or (plan_for st command) [])

-- what a call of groups that was accepted makes of them
abbrev pub groups_after : Groups → (writer : ℕ) → Command → Groups
groups_after gs writer Group = begun gs
groups_after gs writer (Engage group) = engaged gs writer group
groups_after gs writer (Disengage group) = disengaged gs writer group
groups_after gs writer (Depend group on) = ordered gs group on
groups_after gs writer (CloseGroup group) = closed gs group
groups_after gs writer _ = gs

-- how many patches some steps make
abbrev pub creates : List Step → ℕ
creates [] = 0
creates (Create block start bytes after undo ∷ steps) = suc (creates steps)
creates (_ ∷ steps) = creates steps

-- changes with some more, the newest first
abbrev pub onto : List Made → List Made → List Made
onto [] made = made
onto (m ∷ later) made = onto later (m ∷ made)

-- after a call with this reply and these steps, which make so many first patches of its plan
abbrev pub after_call : Standing → (writer : ℕ) → Command → Reply → List Step → Standing
after_call st writer command reply steps =
    let done = take (creates steps) (plan_of st writer command) in
    let joined = with_patches st.groups (maker_of writer command) (made_by st) (creates steps) in
    record {
      run = followed_by st.run steps;
      groups = if is_refused reply then joined else groups_after joined writer command;
      shelf = after_plan st.shelf (made_by st) done;
      map = after_reply st.map command reply;
      made = onto done st.made;
    }
