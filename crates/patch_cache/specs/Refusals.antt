-- What the refusals of a cache tell.
use Rattle.std.specs.Prelude.{ℕ, ◌≡◌, List, Option, Some, None}
use Rattle.patch_model.specs.declared.refusals.Refusal.{Refusal}
use Rattle.patch_model.specs.declared.refusals.RefusalKind.TheVariants as kind
use Rattle.patch_model.specs.Entry.{Entry}
use Rattle.patch_model.specs.Legal.{IsLegalMerge}
use Rattle.patch_model.specs.Refusing.{bare, with_number, why_no_pair, IsLeastThird}
use Rattle.patch_cache.specs.declared.refusals.ViewRefusal.{ViewRefusal}
use Rattle.patch_cache.specs.declared.refusals.ViewRefusal.TheVariants as view
use Rattle.patch_cache.specs.declared.refusals.BringRefusal.{BringRefusal}
use Rattle.patch_cache.specs.declared.refusals.BringRefusal.TheVariants as bring
use Rattle.patch_cache.specs.declared.refusals.EvictRefusal.{EvictRefusal}
use Rattle.patch_cache.specs.declared.refusals.EvictRefusal.TheVariants as evict
use Rattle.patch_cache.specs.declared.refusals.ReadRefusal.{ReadRefusal}
use Rattle.patch_cache.specs.declared.refusals.ReadRefusal.TheVariants as read
use Rattle.patch_cache.specs.declared.refusals.CreateRefusal.{CreateRefusal}
use Rattle.patch_cache.specs.declared.refusals.CreateRefusal.TheVariants as create
use Rattle.patch_cache.specs.declared.refusals.MergeRefusal.{MergeRefusal}
use Rattle.patch_cache.specs.declared.refusals.MergeRefusal.TheVariants as merge
use Rattle.patch_cache.specs.declared.refusals.SendRefusal.{SendRefusal}
use Rattle.patch_cache.specs.declared.refusals.SendRefusal.TheVariants as send
use Rattle.patch_cache.specs.declared.refusals.TakeRefusal.{TakeRefusal}
use Rattle.patch_cache.specs.declared.refusals.TakeRefusal.TheVariants as take
use Rattle.patch_cache.specs.declared.refusals.DeviceGaveUp.{DeviceGaveUp}
use Rattle.patch_cache.specs.declared.refusals.FlushRefusal.{FlushRefusal}
use Rattle.patch_cache.specs.declared.refusals.FlushRefusal.TheVariants as flush

abbrev pub view_cause : ViewRefusal → Refusal
view_cause view.NoSuchBlock = bare kind.NoSuchBlock
view_cause (view.NotResident n) = with_number kind.NotResident n

abbrev pub bring_cause : BringRefusal → Refusal
bring_cause bring.Fault = bare kind.Fault
bring_cause bring.OutOfMemory = bare kind.OutOfMemory

abbrev pub evict_cause : EvictRefusal → Refusal
evict_cause evict.NoSuchBlock = bare kind.NoSuchBlock
evict_cause (evict.NotResident n) = with_number kind.NotResident n
evict_cause evict.Live = bare kind.Live

abbrev pub read_cause : ReadRefusal → Refusal
read_cause read.NoSuchBlock = bare kind.NoSuchBlock
read_cause (read.NotResident n) = with_number kind.NotResident n
read_cause read.OutOfBlock = bare kind.OutOfBlock

abbrev pub create_cause : CreateRefusal → Refusal
create_cause create.NoSuchBlock = bare kind.NoSuchBlock
create_cause (create.NotResident n) = with_number kind.NotResident n
create_cause create.EmptyPatch = bare kind.EmptyPatch
create_cause create.OutOfBlock = bare kind.OutOfBlock
create_cause create.UnknownDependency = bare kind.UnknownDependency
create_cause create.NumbersSpent = bare kind.NumbersSpent
create_cause create.TooManyLive = bare kind.TooManyLive
create_cause create.OutOfMemory = bare kind.OutOfMemory

abbrev pub merge_cause : MergeRefusal → Refusal
merge_cause merge.Unknown = bare kind.Unknown
merge_cause (merge.NotInMemory n) = with_number kind.NotInMemory n
merge_cause merge.Same = bare kind.Same
merge_cause merge.OtherBlock = bare kind.OtherBlock
merge_cause (merge.Hard n) = with_number kind.Hard n
merge_cause merge.Apart = bare kind.Apart
merge_cause (merge.WouldCycle n) = with_number kind.WouldCycle n
merge_cause merge.OutOfMemory = bare kind.OutOfMemory

abbrev pub send_cause : SendRefusal → Refusal
send_cause send.NoSuchBlock = bare kind.NoSuchBlock
send_cause (send.NotResident n) = with_number kind.NotResident n
send_cause send.AlreadyInFlight = bare kind.AlreadyInFlight
send_cause send.NothingReady = bare kind.NothingReady
send_cause send.OutOfMemory = bare kind.OutOfMemory

abbrev pub take_cause : TakeRefusal → Refusal
take_cause take.Unknown = bare kind.Unknown
take_cause take.Durable = bare kind.Durable
take_cause take.InFlight = bare kind.InFlight
take_cause take.Hard = bare kind.Hard
take_cause take.AlreadyTaken = bare kind.AlreadyTaken
take_cause (take.DependentApplied n) = with_number kind.DependentApplied n

abbrev pub gave_up_cause : DeviceGaveUp → Refusal
gave_up_cause refusal = with_number kind.DeviceGaveUp refusal.0

abbrev pub flush_cause : FlushRefusal → Refusal
flush_cause (flush.DeviceGaveUp n) = with_number kind.DeviceGaveUp n
flush_cause flush.SyncFailed = bare kind.SyncFailed
flush_cause flush.OutOfMemory = bare kind.OutOfMemory

-- the refusal has this cause; with no cause there was no memory
abbrev pub IsCause : Option Refusal → Refusal → Type 0
IsCause None refusal = refusal ≡ bare kind.OutOfMemory
IsCause (Some cause) refusal = refusal ≡ cause

-- why two classes aren't merged
pub data IsWhyNotMerged (all : List Entry) (a b : ℕ) : Refusal → Type 0 where
  sooner : {cause : Refusal} → why_no_pair all a b ≡ Some cause → IsWhyNotMerged all a b cause
  between : {n : ℕ} → why_no_pair all a b ≡ None → IsLeastThird all a b n → IsWhyNotMerged all a b (with_number kind.WouldCycle n)

-- the refusal of a merge has such a cause; where the merge is legal there was no memory
pub data IsMergeCause (all : List Entry) (a b : ℕ) : Refusal → Type 0 where
  against : {cause : Refusal} → IsWhyNotMerged all a b cause → IsMergeCause all a b cause
  no_memory : IsLegalMerge all a b → IsMergeCause all a b (bare kind.OutOfMemory)
