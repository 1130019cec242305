-- Which steps a cache may take.
use Rattle.std.specs.Prelude.{ℕ, Bool, ◌≡◌, ◌≢◌, ◌+◌, ◌==◌, ◌&&◌, ◌<◌, ◌≤◌, ◌⊎◌, nat_le, IsTrue, IsFalse, List, [], ◌∷◌, length, All, count_by, slice_get, Some, None, false}
use Rattle.std.specs.List.{list_any}
use Rattle.patch_model.specs.declared.blocks.TheConstants.{BLOCK}
use Rattle.patch_model.specs.declared.limits.TheConstants.{MAX_CACHED, MAX_PATCHES, MAX_LIVE}
use Rattle.patch_model.specs.Step.{Step, Create, Merge, Send, Complete}
use Rattle.patch_model.specs.Pile.{end}
use Rattle.patch_model.specs.Execution.{Execution}
use Rattle.patch_model.specs.Entry.{Entry, is_live, is_undoable}
use Rattle.patch_model.specs.Dependency.{LiesBetween}
use Rattle.patch_model.specs.Ready.{ready}
use Rattle.patch_model.specs.State.{State, class_of, has_flight, after_step, at_first}

pub record IsLegalCreate (blocks : ℕ) (all : List Entry) (block start : ℕ) (bytes after : List ℕ) : Type 0 where
  pub known : block < blocks
  pub some : 0 < length bytes
  pub fits : start + length bytes ≤ BLOCK
  pub made : All (λ n. n < length all) after
  pub numbers_left : length all < MAX_PATCHES
  pub room : count_by is_live all < MAX_LIVE

-- a patch of the one class overlaps or touches a patch of the other
abbrev pub touch : List Entry → ℕ → ℕ → Bool
touch all a b =
    list_any (λ e. e.class == a && list_any (λ f. f.class == b && nat_le e.patch.start (end f.patch) && nat_le f.patch.start (end e.patch)) all) all

-- the patch of this number was made, and may be taken back
abbrev pub is_undoable_at : List Entry → ℕ → Bool
is_undoable_at all n = elim (slice_get all n) [ Some e ↦ is_undoable e | None ↦ false ]

-- the block of the patch of this number
abbrev pub block_of_patch : List Entry → ℕ → ℕ
block_of_patch all n = elim (slice_get all n) [ Some e ↦ e.patch.block | None ↦ 0 ]

pub record IsLegalMerge (all : List Entry) (a b : ℕ) : Type 0 where
  pub undoable_a : IsTrue (is_undoable_at all a)
  pub undoable_b : IsTrue (is_undoable_at all b)
  pub two : class_of all a ≢ class_of all b
  pub one_block : block_of_patch all a ≡ block_of_patch all b
  pub near : IsTrue (touch all (class_of all a) (class_of all b))
  pub none_between : (c : ℕ) → LiesBetween all (class_of all a) (class_of all b) c ⊎ LiesBetween all (class_of all b) (class_of all a) c → ⊥

-- the step may come next, with so many blocks
abbrev pub IsLegalStep : ℕ → State → Step → Type 0
IsLegalStep blocks st (Create block start bytes after undo) = IsLegalCreate blocks st.entries block start bytes after
IsLegalStep blocks st (Merge a b) = IsLegalMerge st.entries a b
IsLegalStep blocks st (Send block) = IsFalse (has_flight st block) × (ready st.entries block ≢ [])
IsLegalStep blocks st (Complete block) = IsTrue (has_flight st block)

-- each step is legal where it stands
abbrev pub AreLegal : ℕ → State → List Step → Type 0
AreLegal blocks st [] = Unit {0}
AreLegal blocks st (step ∷ steps) = IsLegalStep blocks st step × AreLegal blocks (after_step st step) steps

-- there are as many blocks as there may be, each of a block's length, and each step is legal
pub record IsLegal (run : Execution) : Type 0 where
  pub some : 0 < length run.first
  pub few : length run.first ≤ MAX_CACHED
  pub blocks : All (λ block. length block ≡ BLOCK) run.first
  pub steps : AreLegal (length run.first) at_first run.steps
