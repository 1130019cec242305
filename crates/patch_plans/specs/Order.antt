-- What the rules of groups keep true.
use Rattle.std.specs.Prelude.{ℕ, true, false, ◌≡◌, ◌<◌, ◌≤◌, Bool, IsTrue, List, [], length, Option, None, Contains}
use Rattle.patch_model.specs.declared.patches.Undo.{Undo}
use Rattle.patch_model.specs.Execution.{Execution, extended}
use Rattle.patch_model.specs.Step.{Step, Create}
use Rattle.patch_model.specs.Entry.{Entry}
use Rattle.patch_model.specs.State.{entries_of}
use Rattle.patch_model.specs.Crash.{IsClosed}
use Rattle.patch_plans.specs.Rising.{AreRising}
use Rattle.patch_plans.specs.Groups.{Groups, AreApart, group_at, before, patches_of, is_engaged, no_groups, begun, engaged, disengaged, ordered, closed, with_patch, named, why_not_engaged, why_not_ordered}

-- These are groups of the execution's patches: a group that stands before another is sealed, a sealed one isn't engaged, only a
-- group that was engaged has patches, each patch of a group names all patches of all groups before it, and a group's patches
-- stand in order of making, each once.
pub record AreGroupsOf (run : Execution) (gs : Groups) : Type 0 where
  pub sealed : (q p : ℕ) → Contains (before gs q) p → (group_at gs p).sealed ≡ true
  pub free : (g : ℕ) → (group_at gs g).sealed ≡ true → is_engaged gs g ≡ false
  pub started : (g : ℕ) → is_engaged gs g ≡ true → (group_at gs g).started ≡ true
  pub empty : (g : ℕ) → (group_at gs g).started ≡ false → patches_of gs g ≡ []
  pub made : (g n : ℕ) → Contains (patches_of gs g) n → n < length (entries_of run)
  pub names : (q p m : ℕ) (e : Entry) → Contains (entries_of run) e → Contains (patches_of gs q) e.patch.no → Contains (before gs q) p → Contains (patches_of gs p) m
      → Contains e.patch.after m
  pub once : AreApart gs.engaged
  pub rising : (g : ℕ) → AreRising (patches_of gs g)

-- a set that is closed under dependencies and holds a patch of a group holds all patches of all groups before it
abbrev pub HoldsBefore : Execution → Groups → (Entry → Bool) → Type 0
HoldsBefore run gs set =
    (q p : ℕ) (e f : Entry) → Contains (entries_of run) e → Contains (entries_of run) f → Contains (patches_of gs q) e.patch.no → Contains (before gs q) p
    → Contains (patches_of gs p) f.patch.no → IsTrue (set e) → IsTrue (set f)

abbrev pub ClosedSetsHoldBefore : Type 0
ClosedSetsHoldBefore = (run : Execution) (gs : Groups) (set : Entry → Bool) → AreGroupsOf run gs → IsClosed (entries_of run) set → HoldsBefore run gs set

-- With no groups it is so.
abbrev pub NoneAreOfAny : Type 0
NoneAreOfAny = (run : Execution) → AreGroupsOf run no_groups

-- A step that no patch joins a group by keeps it so,
abbrev pub StepsKeep : Type 0
StepsKeep = (run : Execution) (gs : Groups) (step : Step) → AreGroupsOf run gs → AreGroupsOf (extended run step) gs

-- a patch of a writer, or of none, that names what it has to,
abbrev pub PatchesKeep : Type 0
PatchesKeep =
    (run : Execution) (gs : Groups) (writer : Option ℕ) (block start : ℕ) (bytes after : List ℕ) (undo : Undo) → AreGroupsOf run gs
    → AreGroupsOf (extended run (Create block start bytes (named gs writer after) undo)) (with_patch gs writer (length (entries_of run)))

-- and each call that isn't refused.
pub record CallsKeep : Type 0 where
  pub begun : (run : Execution) (gs : Groups) → AreGroupsOf run gs → AreGroupsOf run (begun gs)
  pub engaged : (run : Execution) (gs : Groups) (writer group : ℕ) → AreGroupsOf run gs → why_not_engaged gs writer group ≡ None → AreGroupsOf run (engaged gs writer group)
  pub disengaged : (run : Execution) (gs : Groups) (writer group : ℕ) → AreGroupsOf run gs → AreGroupsOf run (disengaged gs writer group)
  pub ordered : (run : Execution) (gs : Groups) (group on : ℕ) → AreGroupsOf run gs → why_not_ordered gs group on ≡ None → AreGroupsOf run (ordered gs group on)
  pub closed : (run : Execution) (gs : Groups) (group : ℕ) → AreGroupsOf run gs → AreGroupsOf run (closed gs group)

-- How many patches a group has.
abbrev pub GroupsAreSmall : Type 0
GroupsAreSmall = (run : Execution) (gs : Groups) (g : ℕ) → AreGroupsOf run gs → length (patches_of gs g) ≤ length (entries_of run)
