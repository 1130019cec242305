-- How blocks become resident and are let go, and how a cache begins anew.
use Rattle.std.specs.Prelude.{ℕ, true, false, ◌≡◌, ◌<◌, ◌≤◌, ◌&&◌, not, nat_lt, nat_le, List, Option, Some, None, All, if◌then◌else◌, length, count_by, is_some, slice_set}
use Rattle.patch_model.specs.declared.blocks.TheConstants.{BLOCK}
use Rattle.patch_model.specs.declared.refusals.Refusal.{Refusal}
use Rattle.patch_model.specs.declared.refusals.RefusalKind.TheVariants as kind
use Rattle.patch_model.specs.Execution.{Execution}
use Rattle.patch_model.specs.History.{history_of, cached}
use Rattle.patch_model.specs.Refusing.{bare, with_number}
use Rattle.patch_model.specs.Renewed.{is_clean}
use Rattle.patch_stacks.specs.State.{unlaid}
use Rattle.patch_cache.specs.Contents.{Contents, is_resident}
use Rattle.patch_cache.specs.Meaning.{IsPagedCacheOf}
use Rattle.patch_cache.specs.declared.refusals.ViewRefusal.{ViewRefusal}
use Rattle.patch_cache.specs.declared.refusals.ViewRefusal.TheVariants as view
use Rattle.patch_cache.specs.declared.refusals.AdmitRefusal.{AdmitRefusal}
use Rattle.patch_cache.specs.declared.refusals.AdmitRefusal.TheVariants as admit

-- there is such a block, and it isn't resident
abbrev pub why_not_resident : Contents → ℕ → Option Refusal
why_not_resident c block = if nat_lt block (length c.blocks) && not (is_resident c block) then Some (with_number kind.NotResident block) else None

-- that is told before any other cause
abbrev pub first_cause : Option Refusal → Option Refusal → Option Refusal
first_cause (Some cause) other = Some cause
first_cause None other = other

abbrev pub if_resident : Contents → ℕ → Option Refusal → Option Refusal
if_resident c block why = first_cause (why_not_resident c block) why

-- why the block isn't lent
abbrev pub IsWhyNotLent : Contents → ℕ → ViewRefusal → Type 0
IsWhyNotLent c block view.NoSuchBlock = length c.blocks ≤ block
IsWhyNotLent c block (view.NotResident n) = (n ≡ block) × (block < length c.blocks) × (is_resident c block ≡ false)

-- blocks as a disk may have them, so many
pub record AreBlocks (count : ℕ) (first : List (List ℕ)) : Type 0 where
  pub many : length first ≡ count
  pub long : All (λ block. length block ≡ BLOCK) first

-- with the block resident, of which these are the bytes
abbrev pub with_admitted : Contents → ℕ → List ℕ → Contents
with_admitted c block bytes = record c { blocks = slice_set c.blocks block (Some (unlaid bytes)) }

-- the executions that the cache stood for and whose cached block has these bytes
abbrev pub AdmitsRight : Contents → ℕ → List ℕ → Contents → Type 0
AdmitsRight old block bytes new = (run : Execution) → IsPagedCacheOf old run → cached (history_of run block) ≡ bytes → IsPagedCacheOf new run

-- why the block isn't admitted
abbrev pub IsWhyNotAdmitted : Contents → ℕ → AdmitRefusal → Type 0
IsWhyNotAdmitted c block admit.NoSuchBlock = length c.blocks ≤ block
IsWhyNotAdmitted c block admit.IsResident = is_resident c block ≡ true
IsWhyNotAdmitted c block admit.OutOfMemory = (block < length c.blocks) × (is_resident c block ≡ false)

-- why the block isn't let go
abbrev pub why_not_evicted : Contents → Execution → ℕ → Option Refusal
why_not_evicted c run block =
    if nat_le (length c.blocks) block then Some (bare kind.NoSuchBlock)
    else if not (is_resident c block) then Some (with_number kind.NotResident block)
    else if not (is_clean run block) then Some (bare kind.Live)
    else None

-- how many blocks are resident
abbrev pub resident_count : Contents → ℕ
resident_count c = count_by is_some c.blocks

-- all are
abbrev pub AreAllResident : Contents → Type 0
AreAllResident c = (block : ℕ) → block < length c.blocks → is_resident c block ≡ true
