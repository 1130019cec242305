-- A frame that is put into an extent and named by a slot.
use Rattle.std.specs.Prelude.{ℕ, ◌≡◌, ◌++◌, if◌then◌else◌, List, [], ◌∷◌, length, take, is_none, option_to_list}
use Rattle.std.specs.Prelude.{Option, Some, Result, MatchResult}
use Rattle.patch_model.specs.declared.refusals.OutOfMemory.{OutOfMemory}
use Rattle.patch_model.specs.Step.{Step}
use Rattle.patch_model.specs.Execution.{Execution, followed_by}
use Rattle.patch_model.specs.State.{entries_of}
use Rattle.patch_cache.specs.Meaning.{IsCacheOf}
use Rattle.patch_frame.specs.Frame.{Content, spelling}
use Rattle.patch_frame.specs.Geometry.{slot_block, slot_start}
use Rattle.patch_frame.specs.Slot.{SlotFields}
use Rattle.patch_frame.specs.Slot as slots
use Rattle.patch_recovery.specs.Change.{Fill, Made}
use Rattle.patch_extent.specs.Answers.{Setting, setting, IsSettingOf, Append, plan_of, IsAppended, IsBegun}
use Rattle.patch_extent.specs.declared.places.Appended.{Appended}
use Rattle.patch_extent.specs.Appending.{IsPatched}
use Rattle.patch_plans.specs.Extents.{generation_at, offset_at}
use Rattle.patch_plans.specs.Writing.{with_patches, written}
use Rattle.patch_history.specs.History.{IsWhole, IsCut}
use Rattle.patch_history.specs.Shelf.{Shelf, slot_at, after_change, after_plan}
use Rattle.patch_history.specs.StoreState.{Standing, made_by, creates}
use Rattle.patch_history.specs.Steps.{FramePut, framed}
use Rattle.patch_store.specs.Meaning.{Store}
use Rattle.patch_store.specs.Merging.{counted_with, HasMerged}

-- the store's extents, with the groups and the cache of their patches
abbrev pub setting_of : Store → Setting
setting_of s = setting s.shelf.extents s.groups s.cache

-- What a slot says of a frame.

-- of one of so many bytes that is appended to the extent next
abbrev pub next_fields : Shelf → (extent : ℕ) (key : List ℕ) (len : ℕ) → SlotFields
next_fields s extent key len = record {
  key = key;
  extent = extent;
  generation = generation_at s.extents extent;
  offset = offset_at s.extents extent;
  length = len;
}

-- The last delete's patch, where the slot is empty: then it comes after that.
abbrev pub delete_before : Shelf → (slot : ℕ) → List ℕ
delete_before s slot = if is_none (slot_at s slot) then option_to_list s.last_delete else []

-- what the slot's patch comes after: the pointer patch of the frame, such a delete, and the upgrade
abbrev pub names_behind : Shelf → (slot point : ℕ) → List ℕ
names_behind s slot point = point ∷ (delete_before s slot ++ option_to_list s.upgrade)

-- the slot's patch was made behind these, and the shelf has it
pub record IsFilled (writer : Option ℕ) (slot : ℕ) (fields : SlotFields) (names : List ℕ) (old new : Store)
    : Type 0 where
  pub made : ℕ
  pub patched : IsPatched (slot_block slot) (slot_start slot) (slots.spelling (Some fields)) writer names
      old.groups old.cache new.groups new.cache made
  pub shelf_is : new.shelf ≡ after_change old.shelf made (Fill slot fields)
  pub left_out_is : new.left_out ≡ old.left_out

-- or there was no memory, and nothing has changed
abbrev pub FillsSlot : (writer : Option ℕ) (slot : ℕ) (fields : SlotFields) (names : List ℕ)
    → Result (Unit {0}) OutOfMemory → (old new : Store) → Type 0
FillsSlot writer slot fields names result old new =
    MatchResult result (λ _. IsFilled writer slot fields names old new) (λ _. new ≡ old)

-- A frame is appended.

-- it was, up to this pointer patch, and its extent is current
pub record IsFrameAppended (a : Append) (old new : Store) (point : ℕ) : Type 0 where
  pub appended : Appended
  pub appended_is : (run : Execution) → IsSettingOf (setting_of old) run
      → IsAppended run a (setting_of old) (setting_of new) appended
  pub point_is : point ≡ appended.pointer_patch
  pub shelf_is : new.shelf ≡ record old.shelf { extents = new.shelf.extents; current = Some a.extent }
  pub left_out_is : new.left_out ≡ counted_with old.left_out appended.merge

-- or begun, and the shelf is as it was
pub record IsFrameBegun (a : Append) (old new : Store) : Type 0 where
  pub begun : (run : Execution) → IsSettingOf (setting_of old) run
      → IsBegun run a.writer (plan_of run old.shelf.extents a) (setting_of old) (setting_of new)
  pub shelf_is : new.shelf ≡ old.shelf
  pub left_out_is : new.left_out ≡ old.left_out

abbrev pub AppendsFrame : Append → Result ℕ OutOfMemory → (old new : Store) → Type 0
AppendsFrame a result old new = MatchResult result (IsFrameAppended a old new) (λ _. IsFrameBegun a old new)

-- Both together.

-- the frame of this content, put by a writer or by none into a store that stands so
abbrev pub framing : Standing → (writer : Option ℕ) (slot extent : ℕ) → Content → FramePut
framing st writer slot extent c = record { standing = st; writer = writer; extent = extent; slot = slot; content = c }

-- the store stands so, and the frame is that of the content
pub record IsAsked (st : Standing) (c : Content) (key frame : List ℕ) (s : Store) : Type 0 where
  pub setting_is : IsSettingOf (setting_of s) st.run
  pub groups_are : s.groups ≡ st.groups
  pub shelf_is : s.shelf ≡ st.shelf
  pub counted : length (entries_of st.run) ≡ made_by st
  pub key_is : key ≡ c.key
  pub frame_is : frame ≡ spelling c

-- the store stands behind some steps, which make the first patches of a plan, and has counted the merges that they left out
pub record StandsBehind (st : Standing) (writer : Option ℕ) (plan : List Made) (steps : List Step) (old new : Store)
    : Type 0 where
  pub cache_is : IsCacheOf new.cache (followed_by st.run steps)
  pub trace_is : new.cache.trace ≡ old.cache.trace ++ steps
  pub groups_are : new.groups ≡ with_patches st.groups writer (made_by st) (creates steps)
  pub shelf_is : new.shelf ≡ after_plan st.shelf (made_by st) (take (creates steps) plan)
  pub merged : HasMerged st.run (written st.shelf.extents (made_by st) plan) steps old.left_out new.left_out

-- behind all steps of the frame
pub record IsFramed (f : FramePut) (old new : Store) : Type 0 where
  pub steps : List Step
  pub whole : IsWhole f.standing (framed f) steps
  pub stands : StandsBehind f.standing f.writer (framed f) steps old new

-- or behind some first ones, where memory ran out
pub record IsFramedInPart (f : FramePut) (old new : Store) : Type 0 where
  pub steps : List Step
  pub cut : IsCut f.standing (framed f) steps
  pub stands : StandsBehind f.standing f.writer (framed f) steps old new

abbrev pub PutsFrame : (writer : Option ℕ) (slot extent : ℕ) (key frame : List ℕ) → Result (Unit {0}) OutOfMemory
    → (old new : Store) → Type 0
PutsFrame writer slot extent key frame result old new =
    (st : Standing) (c : Content) → IsAsked st c key frame old → MatchResult result
    (λ _. IsFramed (framing st writer slot extent c) old new)
    (λ _. IsFramedInPart (framing st writer slot extent c) old new)
