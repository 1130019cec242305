-- What the calls of the extents answer and leave.
use Rattle.std.specs.Prelude.{ℕ, Bool, true, false, ◌≡◌, ◌+◌, ◌<◌, List, [], ◌∷◌, ◌++◌, length, take, replicate, Option, None, Result, MatchResult}
use Rattle.patch_model.specs.declared.refusals.Refusal.{Refusal}
use Rattle.patch_model.specs.Step.{Step}
use Rattle.patch_model.specs.Execution.{Execution, followed_by}
use Rattle.patch_model.specs.State.{entries_of}
use Rattle.patch_model.specs.History.{of_block}
use Rattle.patch_frame.specs.declared.geometries.Geometry.{Geometry}
use Rattle.patch_frame.specs.Geometry.{pointer_block}
use Rattle.patch_cache.specs.Contents.{Contents}
use Rattle.patch_cache.specs.Meaning.{IsCacheOf}
use Rattle.patch_cache.specs.Refusals.{IsCause}
use Rattle.patch_plans.specs.Groups.{Groups}
use Rattle.patch_recovery.specs.Change.{Made}
use Rattle.patch_model.specs.Renewed.{cached_blocks}
use Rattle.patch_recovery.specs.Ledger.{bytes_at}
use Rattle.patch_recovery.specs.Reading.{bad_pointers, block_on, ledger_in}
use Rattle.patch_plans.specs.Extents.{Extents, extent_at, generation_at, offset_at}
use Rattle.patch_plans.specs.Planning.{append_plan, reset_plan, touched}
use Rattle.patch_plans.specs.Writing.{after_plan, with_patches, steps_of}
use Rattle.patch_plans.specs.Meaning.{AreExtentsOf}
use Rattle.patch_extent.specs.Refusing.{why_not_appended, why_not_reset}
use Rattle.patch_extent.specs.Merging.{IsOutcome, is_made}
use Rattle.patch_extent.specs.Opening.{AreRecords}
use Rattle.patch_extent.specs.Refusals.{append_cause, reset_cause}
use Rattle.patch_extent.specs.declared.places.Place.{Place}
use Rattle.patch_extent.specs.declared.places.Appended.{Appended}
use Rattle.patch_extent.specs.declared.refusals.ExtentsFault.{ExtentsFault}
use Rattle.patch_extent.specs.declared.refusals.ExtentsFault.TheVariants.{BadPointer, OutOfMemory}
use Rattle.patch_extent.specs.declared.refusals.AppendRefusal.{AppendRefusal}
use Rattle.patch_extent.specs.declared.refusals.ResetRefusal.{ResetRefusal}

-- the extents, with the groups and the cache of the patches that they make
pub record Setting : Type 0 where
  pub extents : Extents
  pub groups : Groups
  pub cache : Contents

abbrev pub setting : Extents → Groups → Contents → Setting
setting extents groups cache = record { extents = extents; groups = groups; cache = cache }

-- cache and extents represent the execution
pub record IsSettingOf (s : Setting) (run : Execution) : Type 0 where
  pub cache_is : IsCacheOf s.cache run
  pub represents : AreExtentsOf s.extents run

-- the steps of a plan
abbrev pub plan_steps : Execution → Setting → Option ℕ → List Bool → List Made → List Step
plan_steps run old writer choices plan = steps_of choices old.extents old.groups writer (length (entries_of run)) plan

-- The changes of a plan were made: the cache stands behind their steps, in its trace and in its execution, and groups and extents
-- have them all.
pub record AreMade (run : Execution) (writer : Option ℕ) (choices : List Bool) (plan : List Made) (old new : Setting) : Type 0 where
  pub stands : IsSettingOf new (followed_by run (plan_steps run old writer choices plan))
  pub counted : length (entries_of (followed_by run (plan_steps run old writer choices plan))) ≡ length (entries_of run) + length plan
  pub trace_is : new.cache.trace ≡ old.cache.trace ++ plan_steps run old writer choices plan
  pub groups_are : new.groups ≡ with_patches old.groups writer (length (entries_of run)) (length plan)
  pub extents_are : new.extents ≡ after_plan old.extents (length (entries_of run)) plan

-- the whole plan, with the merges that a choice says
pub record IsWritten (run : Execution) (writer : Option ℕ) (plan : List Made) (old new : Setting) : Type 0 where
  pub choices : List Bool
  pub each : length choices ≡ length plan
  pub made : AreMade run writer choices plan old new

-- Memory ran out: some first changes of the plan were made, without a merge, and the extents are as they were.
pub record IsBegun (run : Execution) (writer : Option ℕ) (plan : List Made) (old new : Setting) : Type 0 where
  pub count : ℕ
  pub not_all : count < length plan
  pub made : AreMade run writer [] (take count plan) old new
  pub extents_are : new.extents ≡ old.extents

-- what an append is asked
pub record Append : Type 0 where
  pub writer : Option ℕ
  pub extent : ℕ
  pub bytes : List ℕ
  pub after : List ℕ

abbrev pub asked : (writer : Option ℕ) (extent : ℕ) (bytes after : List ℕ) → Append
asked writer extent bytes after = record { writer = writer; extent = extent; bytes = bytes; after = after }

-- its plan, the first cause against it, and where it puts its bytes
abbrev pub plan_of : Execution → Extents → Append → List Made
plan_of run s a = append_plan s (length (entries_of run)) a.extent a.bytes a.after

abbrev pub cause_against : Execution → Extents → Append → Option Refusal
cause_against run s a = why_not_appended s (entries_of run) a.extent (length a.bytes) a.after

abbrev pub place_for : Extents → Append → Place
place_for s a = record {
  extent = a.extent;
  generation = generation_at s a.extent;
  offset = offset_at s a.extent;
  len = length a.bytes;
}

-- the execution with the patches of an append at its end, where its merge comes
abbrev pub before_merge : Execution → Setting → Append → Execution
before_merge run old a = followed_by run (plan_steps run old a.writer [] (plan_of run old.extents a))

-- Behind the data patches comes none; the merge of the pointer patch is made just where it is legal, unless there was no memory for
-- it.
pub record MergesRightly (run : Execution) (a : Append) (old : Setting) (choices : List Bool) (appended : Appended) : Type 0 where
  pub outcome_is : IsOutcome (entries_of (before_merge run old a)) (extent_at old.extents a.extent).point appended.pointer_patch appended.merge
  pub choices_are : choices ≡ replicate (touched (offset_at old.extents a.extent) (length a.bytes)) false ++ is_made appended.merge ∷ []

-- an append that was done
pub record IsAppended (run : Execution) (a : Append) (old new : Setting) (appended : Appended) : Type 0 where
  pub no_cause : cause_against run old.extents a ≡ None
  pub place_is : appended.place ≡ place_for old.extents a
  pub patch_is : appended.pointer_patch ≡ length (entries_of run) + touched (offset_at old.extents a.extent) (length a.bytes)
  pub is_written : IsWritten run a.writer (plan_of run old.extents a) old new
  pub merge_is : MergesRightly run a old is_written.choices appended

-- one that was refused, for the first cause against it, or for want of memory where there is none
pub record IsNotAppended (run : Execution) (a : Append) (old new : Setting) (refusal : AppendRefusal) : Type 0 where
  pub cause : IsCause (cause_against run old.extents a) (append_cause refusal)
  pub begun : IsBegun run a.writer (plan_of run old.extents a) old new

abbrev pub AnswersAppend : Append → Result Appended AppendRefusal → (old new : Setting) → Type 0
AnswersAppend a result old new =
    (run : Execution) → IsSettingOf old run → MatchResult result (IsAppended run a old new) (IsNotAppended run a old new)

-- a reset that was done: one patch, of no writer
pub record IsReset (run : Execution) (extent : ℕ) (after : List ℕ) (old new : Setting) (patch : ℕ) : Type 0 where
  pub no_cause : why_not_reset old.extents (entries_of run) extent after ≡ None
  pub patch_is : patch ≡ length (entries_of run)
  pub is_written : IsWritten run None (reset_plan old.extents extent after) old new

abbrev pub AnswersReset : (extent : ℕ) (after : List ℕ) → Result ℕ ResetRefusal → (old new : Setting) → Type 0
AnswersReset extent after result old new =
    (run : Execution) → IsSettingOf old run → MatchResult result
    (IsReset run extent after old new)
    (λ refusal. IsCause (why_not_reset old.extents (entries_of run) extent after) (reset_cause refusal))

-- so many bytes of an extent, as they are cached
abbrev pub cached_bytes : Geometry → Execution → (extent offset len : ℕ) → List ℕ
cached_bytes g run extent offset len = bytes_at (ledger_in g (cached_blocks run)) extent offset len

-- no patch of the pointer block was made yet
abbrev pub HasNoPoints : Geometry → Execution → Type 0
HasNoPoints g run = of_block (pointer_block g) (entries_of run) ≡ []

-- No pointer is bad, and each is kept as it is cached. So the extents are the execution's, where no patch of them was made yet.
pub record AreOpened (g : Geometry) (run : Execution) (s : Extents) : Type 0 where
  pub good : bad_pointers g (cached_blocks run) ≡ false
  pub divided : s.geometry ≡ g
  pub records : AreRecords g (block_on (cached_blocks run) (pointer_block g)) s.each g.extents
  pub represents : HasNoPoints g run → AreExtentsOf s run

-- the pointers are bad, and not that there was no memory
abbrev pub tells_bad : ExtentsFault → Bool
tells_bad BadPointer = true
tells_bad OutOfMemory = false

-- On any cache BadPointer comes just where a cached pointer is bad, and want of memory where none is.
abbrev pub IsOpened : Contents → Geometry → Result Extents ExtentsFault → Type 0
IsOpened cache g result =
    (run : Execution) → IsCacheOf cache run → MatchResult result
    (AreOpened g run) (λ fault. bad_pointers g (cached_blocks run) ≡ tells_bad fault)
