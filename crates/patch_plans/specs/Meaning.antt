-- Which executions the extents represent.
use Rattle.std.specs.Prelude.{ℕ, Bool, true, ◌≡◌, ◌<◌, ◌==◌, ◌&&◌, if◌then◌else◌, List, length, fold, map, slice_range, Option, Some, None, Ok}
use Rattle.patch_model.specs.Patch.{Patch}
use Rattle.patch_model.specs.Execution.{Execution}
use Rattle.patch_model.specs.State.{entries_of}
use Rattle.patch_frame.specs.declared.geometries.Geometry.{Geometry}
use Rattle.patch_frame.specs.Geometry.{block_count, largest_pointer, pointer_block, pointer_start}
use Rattle.patch_frame.specs.Pointer.{pointer_of, pointer_at}
use Rattle.patch_frame.specs.Field.{are_zeros}
use Rattle.patch_model.specs.Renewed.{cached_blocks}
use Rattle.patch_recovery.specs.Reading.{block_on, record_at}
use Rattle.patch_plans.specs.Extents.{Extents, extent_at, AreWhole}

-- the patch is of the extent's pointer record
abbrev pub is_point : Geometry → ℕ → Patch → Bool
is_point g e p = p.block == pointer_block g && p.start == pointer_start e

-- and sets its pointer to 0
abbrev pub is_reset : Geometry → ℕ → Patch → Bool
is_reset g e p = is_point g e p && (pointer_of p.bytes).offset == 0

-- the patches of an execution, in order of making
abbrev pub patches_of : Execution → List Patch
patches_of run = map (λ e. e.patch) (entries_of run)

-- the number of the last patch that passes
abbrev pub last_of : (Patch → Bool) → List Patch → Option ℕ
last_of test all = fold (λ last p. if test p then Some p.no else last) None all

-- The disk is divided so; each pointer record is read in the cached blocks as it is kept, and behind the last one are zeros; the last
-- reset and the last patch of each record are those of the execution.
pub record AreExtentsOf (s : Extents) (run : Execution) : Type 0 where
  pub whole : AreWhole s
  pub blocks : length run.first ≡ block_count s.geometry
  pub records : (e : ℕ) → e < s.geometry.extents
      → pointer_at (largest_pointer s.geometry.format) (record_at s.geometry (cached_blocks run) e) ≡ Ok (extent_at s e).pointer
  pub rest : are_zeros (slice_range (block_on (cached_blocks run) (pointer_block s.geometry)) (pointer_start s.geometry.extents) 4096) ≡ true
  pub resets : (e : ℕ) → e < s.geometry.extents → (extent_at s e).reset ≡ last_of (is_reset s.geometry e) (patches_of run)
  pub points : (e : ℕ) → e < s.geometry.extents → (extent_at s e).point ≡ last_of (is_point s.geometry e) (patches_of run)
