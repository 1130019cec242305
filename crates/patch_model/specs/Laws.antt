-- Laws of executions that take several lines.
use Rattle.std.specs.Prelude.{ℕ, ◌≡◌, ◌≢◌, ◌+◌, ◌<◌, ◌≤◌, ◌++◌, ◌∷◌, IsTrue, List, [], All, count_by, length}
use Rattle.patch_model.specs.declared.blocks.TheConstants.{BLOCK}
use Rattle.patch_model.specs.declared.limits.TheConstants.{MAX_PATCHES, MAX_LIVE}
use Rattle.patch_model.specs.declared.patches.Undo.{Undo}
use Rattle.patch_model.specs.Step.{Create}
use Rattle.patch_model.specs.Pile.{end}
use Rattle.patch_model.specs.Execution.{Execution}
use Rattle.patch_model.specs.Entry.{Entry, is_live, is_memory, is_among}
use Rattle.patch_model.specs.State.{fresh, entries_of, next_patch}
use Rattle.patch_model.specs.Legal.{IsLegal, touch}
use Rattle.patch_model.specs.History.{HoldsDependents, history_of}
use Rattle.patch_model.specs.Orderly.{MeetAt, CoversIt}
use Rattle.patch_model.specs.Progress.{IsMade, history_after}

-- the patch that is made is the last one of its block
abbrev pub MadeIsLast : Type 0
MadeIsLast =
    (run : Execution) (block start : ℕ) (bytes after : List ℕ) (undo : Undo)
    → (history_after run (Create block start bytes after undo) block).entries
    ≡ (history_of run block).entries ++ fresh (entries_of run) (next_patch run block start bytes after undo) ∷ []

-- and other blocks stay as they are
abbrev pub MadeHereAlone : Type 0
MadeHereAlone =
    (run : Execution) (block start : ℕ) (bytes after : List ℕ) (undo : Undo) (other : ℕ)
    → other ≢ block → history_after run (Create block start bytes after undo) other ≡ history_of run other

-- what a patch has to keep to be made, in numbers
abbrev pub KeepsLimits : (blocks : ℕ) (all : List Entry) (block start : ℕ) (bytes after : List ℕ) → Type 0
KeepsLimits blocks all block start bytes after =
    (block < blocks) × (0 < length bytes) × (start + length bytes ≤ BLOCK) × All (λ n. n < length all) after
    × (length all < MAX_PATCHES) × (count_by is_live all < MAX_LIVE)

-- between two patches of a class that change a byte, none of another class changes it
abbrev pub NoneComesBetween : Type 0
NoneComesBetween =
    (run : Execution) (place : ℕ) (e f g : Entry) → IsLegal run
    → MeetAt (entries_of run) place e f → MeetAt (entries_of run) place f g
    → e.patch.no < f.patch.no → f.patch.no < g.patch.no → e.class ≡ g.class → f.class ≡ e.class

-- between the spans of a class's patches each byte is in one of them
abbrev pub ClassesLeaveNoGap : Type 0
ClassesLeaveNoGap =
    (run : Execution) (e g : Entry) (place : ℕ) → IsLegal run → IsMade run e → IsMade run g → e.class ≡ g.class
    → e.patch.start ≤ place → place < end g.patch → (f : Entry) × CoversIt (entries_of run) e.class place f

-- where neither of two classes begins beyond the other's end, they touch
abbrev pub NearClassesTouch : Type 0
NearClassesTouch =
    (run : Execution) (e e2 g g2 : Entry) → IsLegal run → IsMade run e → IsMade run e2 → IsMade run g → IsMade run g2
    → e.class ≡ e2.class → g.class ≡ g2.class → e.patch.start ≤ end g2.patch → g.patch.start ≤ end e2.patch
    → IsTrue (touch (entries_of run) e.class g.class)

-- at each byte what is taken lies above all that isn't
abbrev pub TakenAreLast : Type 0
TakenAreLast =
    (run : Execution) (block : ℕ) (names : List ℕ) (place : ℕ) (e f : Entry) → IsLegal run
    → HoldsDependents (history_of run block) names → MeetAt (entries_of run) place e f → e.patch.no < f.patch.no
    → IsTrue (is_among names e.class) → IsTrue (is_among names f.class)

-- what is taken is in memory, and of the block
abbrev pub TakenAreInMemory : Type 0
TakenAreInMemory =
    (run : Execution) (block : ℕ) (names : List ℕ) (e : Entry) → IsLegal run
    → HoldsDependents (history_of run block) names → IsMade run e → IsTrue (is_among names e.class)
    → IsTrue (is_memory e) × (e.patch.block ≡ block)
