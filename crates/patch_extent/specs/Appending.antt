-- What the parts of an append do.
use Rattle.std.specs.Prelude.{ℕ, ◌≡◌, ◌+◌, ◌<◌, if◌then◌else◌, List, [], ◌∷◌, ◌++◌, length, Option, Result, MatchResult, option_to_list}
use Rattle.patch_model.specs.declared.patches.Undo.TheVariants.{MayDrop}
use Rattle.patch_model.specs.declared.refusals.OutOfMemory.{OutOfMemory}
use Rattle.patch_model.specs.Execution.{Execution, extended, followed_by}
use Rattle.patch_model.specs.State.{entries_of}
use Rattle.patch_cache.specs.Contents.{Contents}
use Rattle.patch_cache.specs.Meaning.{IsCacheOf}
use Rattle.patch_plans.specs.Groups.{Groups, patch_of, with_patch}
use Rattle.patch_extent.specs.declared.places.Appended.{Appended}
use Rattle.patch_plans.specs.Extents.{offset_at}
use Rattle.patch_recovery.specs.Change.{Made, block_of, start_of, bytes_of}
use Rattle.patch_plans.specs.Planning.{parts, part, touched}
use Rattle.patch_plans.specs.Writing.{merge_with}
use Rattle.patch_extent.specs.declared.places.MergeOutcome.{MergeOutcome}
use Rattle.patch_extent.specs.Answers.{Setting, IsSettingOf, AreMade, IsWritten, IsBegun, Append, plan_of, place_for, MergesRightly}
use Rattle.patch_extent.specs.Merging.{IsOutcome, is_made}

-- a patch was made of a writer, or of none
pub record IsPatched (block start : ℕ) (bytes : List ℕ) (writer : Option ℕ) (after : List ℕ)
    (old_groups : Groups) (old : Contents) (new_groups : Groups) (new : Contents) (made : ℕ) : Type 0 where
  pub stands : (run : Execution) → IsCacheOf old run → IsCacheOf new (extended run (patch_of old_groups writer block start bytes after MayDrop))
  pub number : (run : Execution) → IsCacheOf old run → made ≡ length (entries_of run)
  pub groups_are : new_groups ≡ with_patch old_groups writer made
  pub trace_is : new.trace ≡ old.trace ++ patch_of old_groups writer block start bytes after MayDrop ∷ []

-- or there was no memory, and nothing has changed
abbrev pub LaysPatch : (block start : ℕ) (bytes : List ℕ) (writer : Option ℕ) (after : List ℕ) → Result ℕ OutOfMemory
    → (old_groups : Groups) (old : Contents) (new_groups : Groups) (new : Contents) → Type 0
LaysPatch block start bytes writer after result old_groups old new_groups new =
    MatchResult result (IsPatched block start bytes writer after old_groups old new_groups new)
    (λ _. (new_groups ≡ old_groups) × (new ≡ old))

-- the part of an append's bytes in the k-th block touched
abbrev pub LaysPart : Append → (k : ℕ) → Result ℕ OutOfMemory → (old new : Setting) → Type 0
LaysPart a k result old new =
    LaysPatch (block_of old.extents.geometry (part a.extent (offset_at old.extents a.extent) a.bytes k))
    (start_of (part a.extent (offset_at old.extents a.extent) a.bytes k))
    (bytes_of old.extents.geometry (part a.extent (offset_at old.extents a.extent) a.bytes k)) a.writer a.after result
    old.groups old.cache new.groups new.cache

-- the parts of an append's bytes behind the names, up to the k-th
abbrev pub parts_of : Setting → Append → ℕ → List Made
parts_of s a k = parts a.extent (offset_at s.extents a.extent) a.bytes a.after k

-- all of them were made, or some first ones
abbrev pub LaysParts : Append → Result (Unit {0}) OutOfMemory → (old new : Setting) → Type 0
LaysParts a result old new =
    (run : Execution) → IsSettingOf old run → MatchResult result
    (λ _. AreMade run a.writer [] (parts_of old a (touched (offset_at old.extents a.extent) (length a.bytes))) old new)
    (λ _. (k : ℕ) × (k < touched (offset_at old.extents a.extent) (length a.bytes)) × AreMade run a.writer [] (parts_of old a k) old new)

-- The merge of the patch behind with the one before it was made or not, as the outcome says, which is right.
pub record MergesBehind (before : Option ℕ) (behind : ℕ) (outcome : MergeOutcome) (old new : Contents) : Type 0 where
  pub outcome_is : (run : Execution) → IsCacheOf old run → IsOutcome (entries_of run) before behind outcome
  pub stands : (run : Execution) → IsCacheOf old run
      → IsCacheOf new (followed_by run (if is_made outcome then option_to_list (merge_with behind before) else []))
  pub trace_is : new.trace ≡ old.trace ++ (if is_made outcome then option_to_list (merge_with behind before) else [])

-- an append without a cause was done, or begun
pub record IsDone (run : Execution) (a : Append) (old new : Setting) (appended : Appended) : Type 0 where
  pub place_is : appended.place ≡ place_for old.extents a
  pub patch_is : appended.pointer_patch ≡ length (entries_of run) + touched (offset_at old.extents a.extent) (length a.bytes)
  pub is_written : IsWritten run a.writer (plan_of run old.extents a) old new
  pub merge_is : MergesRightly run a old is_written.choices appended

abbrev pub AppendsCounted : Append → Result Appended OutOfMemory → (old new : Setting) → Type 0
AppendsCounted a result old new =
    (run : Execution) → IsSettingOf old run → MatchResult result
    (IsDone run a old new) (λ _. IsBegun run a.writer (plan_of run old.extents a) old new)
