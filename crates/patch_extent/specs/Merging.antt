-- What comes of the merge of a pointer patch with the last patch of its record.
use Rattle.std.specs.Prelude.{ℕ, Bool, true, false, List, Option, Some, None, Result, Ok, Err}
use Rattle.patch_model.specs.Entry.{Entry}
use Rattle.patch_model.specs.Legal.{IsLegalMerge}
use Rattle.patch_cache.specs.declared.refusals.MergeRefusal.{MergeRefusal}
use Rattle.patch_cache.specs.declared.refusals.MergeRefusal.TheVariants as refusal
use Rattle.patch_extent.specs.declared.places.MergeOutcome.{MergeOutcome}
use Rattle.patch_extent.specs.declared.places.MergeOutcome.TheVariants as merge

-- there is a patch before it, and the two may be merged
abbrev pub MayMerge : List Entry → (before : Option ℕ) (behind : ℕ) → Type 0
MayMerge all None behind = ⊥
MayMerge all (Some before) behind = IsLegalMerge all before behind

-- The merge is made just where it is legal, unless there was no memory for it.
abbrev pub IsOutcome : List Entry → (before : Option ℕ) (behind : ℕ) → MergeOutcome → Type 0
IsOutcome all before behind merge.Made = MayMerge all before behind
IsOutcome all before behind merge.NotLegal = MayMerge all before behind → ⊥
IsOutcome all before behind merge.NoMemory = MayMerge all before behind

abbrev pub is_made : MergeOutcome → Bool
is_made merge.Made = true
is_made merge.NotLegal = false
is_made merge.NoMemory = false

-- what a refusal of a cache says of it
abbrev pub told_by : MergeRefusal → MergeOutcome
told_by refusal.Unknown = merge.NotLegal
told_by (refusal.NotInMemory n) = merge.NotLegal
told_by refusal.Same = merge.NotLegal
told_by refusal.OtherBlock = merge.NotLegal
told_by (refusal.Hard n) = merge.NotLegal
told_by refusal.Apart = merge.NotLegal
told_by (refusal.WouldCycle n) = merge.NotLegal
told_by refusal.OutOfMemory = merge.NoMemory

-- and its answer
abbrev pub outcome_of : Result ℕ MergeRefusal → MergeOutcome
outcome_of (Ok name) = merge.Made
outcome_of (Err why) = told_by why
