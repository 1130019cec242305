-- Laws of plans, and of what the extents represent.
use Rattle.std.specs.Prelude.{ℕ, Bool, ◌≡◌, ◌+◌, ◌<◌, ◌≤◌, List, length, take, Option, None, IsTrue}
use Rattle.patch_model.specs.Step.{Step}
use Rattle.patch_model.specs.State.{entries_of}
use Rattle.patch_model.specs.Execution.{Execution, extended, followed_by}
use Rattle.patch_frame.specs.declared.geometries.Geometry.{Geometry}
use Rattle.patch_frame.specs.Geometry.{largest_pointer}
use Rattle.patch_plans.specs.Groups.{Groups}
use Rattle.patch_plans.specs.Order.{AreGroupsOf}
use Rattle.patch_recovery.specs.Change.{Made}
use Rattle.patch_model.specs.Renewed.{cached_blocks}
use Rattle.patch_recovery.specs.Reading.{ledger_in}
use Rattle.patch_recovery.specs.Store.{makes_nothing}
use Rattle.patch_plans.specs.Extents.{Extents, offset_at}
use Rattle.patch_plans.specs.Planning.{reset_plan}
use Rattle.patch_plans.specs.Writing.{with_patches, steps_of}
use Rattle.patch_plans.specs.Meaning.{AreExtentsOf}
use Rattle.patch_extent.specs.Answers.{Setting, IsSettingOf, Append, plan_of, plan_steps, cached_bytes}

-- a merge, a send or a completion leaves the extents as they are
abbrev pub OtherStepsLeaveExtents : Type 0
OtherStepsLeaveExtents =
    (s : Extents) (run : Execution) (step : Step) → IsTrue (makes_nothing step) → AreExtentsOf s run → AreExtentsOf s (extended run step)

-- groups of an execution are those of the execution after a plan, with its patches
abbrev pub PlansKeepGroups : Type 0
PlansKeepGroups =
    (run : Execution) (s : Extents) (gs : Groups) (w : Option ℕ) (choices : List Bool) (plan : List Made) → AreGroupsOf run gs
    → AreGroupsOf (followed_by run (steps_of choices s gs w (length (entries_of run)) plan)) (with_patches gs w (length (entries_of run)) (length plan))

-- the byte at this place of an extent, as it is cached
abbrev pub byte_at : Geometry → Execution → (extent place : ℕ) → ℕ
byte_at g run extent place = (ledger_in g (cached_blocks run)).byte extent place

-- An append that is done puts its bytes at the pointer, whichever merges are made.
abbrev pub AppendsPutBytes : Type 0
AppendsPutBytes =
    (run : Execution) (a : Append) (old : Setting) (choices : List Bool) → IsSettingOf old run
    → a.extent < old.extents.geometry.extents → offset_at old.extents a.extent + length a.bytes ≤ largest_pointer old.extents.geometry.format
    → cached_bytes old.extents.geometry (followed_by run (plan_steps run old a.writer choices (plan_of run old.extents a)))
    a.extent (offset_at old.extents a.extent) (length a.bytes)
    ≡ a.bytes

-- An append that is done, or cut short, leaves all bytes below the extent's pointer, and all bytes of other extents, as they
-- were: whichever first changes of its plan are made, and whichever merges.
abbrev pub AppendsKeepBytes : Type 0
AppendsKeepBytes =
    (run : Execution) (a : Append) (old : Setting) (choices : List Bool) (k extent place : ℕ) → IsSettingOf old run
    → 0 < length a.bytes → offset_at old.extents a.extent + length a.bytes ≤ largest_pointer old.extents.geometry.format
    → extent < old.extents.geometry.extents → place < largest_pointer old.extents.geometry.format
    → (extent ≡ a.extent → place < offset_at old.extents a.extent)
    → byte_at old.extents.geometry (followed_by run (plan_steps run old a.writer choices (take k (plan_of run old.extents a)))) extent place
    ≡ byte_at old.extents.geometry run extent place

-- a reset leaves all bytes of all extents
abbrev pub ResetsKeepBytes : Type 0
ResetsKeepBytes =
    (run : Execution) (old : Setting) (choices : List Bool) (reset : ℕ) (after : List ℕ) (extent place : ℕ) → IsSettingOf old run
    → extent < old.extents.geometry.extents → place < largest_pointer old.extents.geometry.format
    → byte_at old.extents.geometry (followed_by run (plan_steps run old None choices (reset_plan old.extents reset after))) extent place
    ≡ byte_at old.extents.geometry run extent place
