-- A disk that is made one of version 2.
use Rattle.std.specs.Prelude.{ℕ, ◌≡◌, [], ◌∷◌, ◌++◌, length, slice_range, Result, MatchResult}
use Rattle.patch_model.specs.declared.patches.Undo.TheVariants.{MayDrop}
use Rattle.patch_model.specs.declared.refusals.OutOfMemory.{OutOfMemory}
use Rattle.patch_model.specs.Step.{Step, Create}
use Rattle.patch_model.specs.Execution.{Execution, extended}
use Rattle.patch_model.specs.State.{entries_of}
use Rattle.patch_frame.specs.declared.geometries.Geometry.{Geometry}
use Rattle.patch_frame.specs.Superblock.{spelling}
use Rattle.patch_cache.specs.Contents.{Contents}
use Rattle.patch_cache.specs.Meaning.{IsCacheOf}
use Rattle.patch_recovery.specs.Change.{Widen, step_of, widened}
use Rattle.patch_plans.specs.Extents.{Extents}
use Rattle.patch_plans.specs.Meaning.{AreExtentsOf}

-- the step was made, and its patch has this number, which is the next one
pub record IsStepped (step : Step) (old new : Contents) (made : ℕ) : Type 0 where
  pub stands : (run : Execution) → IsCacheOf old run → IsCacheOf new (extended run step)
  pub number : (run : Execution) → IsCacheOf old run → made ≡ length (entries_of run)
  pub trace_is : new.trace ≡ old.trace ++ step ∷ []

-- the patch that writes the fields of a superblock from its version on
abbrev pub version_step : Geometry → Step
version_step g = Create 0 8 (slice_range (spelling g) 8 24) [] MayDrop

-- it was made, or there was no memory and nothing has changed
abbrev pub LaysVersion : Geometry → Result ℕ OutOfMemory → (old new : Contents) → Type 0
LaysVersion g result old new = MatchResult result (IsStepped (version_step g) old new) (λ _. new ≡ old)

-- the patch of an upgrade
abbrev pub upgrade_step : Extents → Step
upgrade_step s = step_of s.geometry (record { change = Widen; after = [] })

-- It was made, and the extents are those of version 2, of each execution that they were of.
pub record IsUpgraded (s : Extents) (old : Contents) (now : Extents) (new : Contents) (made : ℕ) : Type 0 where
  pub stepped : IsStepped (upgrade_step s) old new made
  pub extents_are : now ≡ record s { geometry = widened s.geometry }
  pub represents : (run : Execution) → AreExtentsOf s run → AreExtentsOf now (extended run (upgrade_step s))

-- or there was no memory, and nothing has changed
abbrev pub AnswersUpgrade : Result ℕ OutOfMemory → (s : Extents) (old : Contents) (now : Extents) (new : Contents) → Type 0
AnswersUpgrade result s old now new = MatchResult result (IsUpgraded s old now new) (λ _. (now ≡ s) × (new ≡ old))
