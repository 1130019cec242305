-- What the refusals tell.
use Rattle.patch_model.specs.declared.refusals.RefusalKind.TheVariants as kind
use Rattle.patch_model.specs.declared.refusals.Refusal.{Refusal}
use Rattle.patch_model.specs.Refusing.{bare}
use Rattle.patch_extent.specs.declared.refusals.ExtentsFault.{ExtentsFault}
use Rattle.patch_extent.specs.declared.refusals.ExtentsFault.TheVariants as opening
use Rattle.patch_extent.specs.declared.refusals.AppendRefusal.{AppendRefusal}
use Rattle.patch_extent.specs.declared.refusals.AppendRefusal.TheVariants as append
use Rattle.patch_extent.specs.declared.refusals.ReadRefusal.{ReadRefusal}
use Rattle.patch_extent.specs.declared.refusals.ReadRefusal.TheVariants as read
use Rattle.patch_extent.specs.declared.refusals.ResetRefusal.{ResetRefusal}
use Rattle.patch_extent.specs.declared.refusals.ResetRefusal.TheVariants as reset
use Rattle.patch_extent.specs.declared.counting.CountRefusal.{CountRefusal}
use Rattle.patch_extent.specs.declared.counting.CountRefusal.TheVariants as count

abbrev pub fault_cause : ExtentsFault → Refusal
fault_cause opening.BadPointer = bare kind.BadPointer
fault_cause opening.OutOfMemory = bare kind.OutOfMemory

abbrev pub append_cause : AppendRefusal → Refusal
append_cause append.NoSuchExtent = bare kind.NoSuchExtent
append_cause append.ExtentFull = bare kind.ExtentFull
append_cause append.UnknownDependency = bare kind.UnknownDependency
append_cause append.NumbersSpent = bare kind.NumbersSpent
append_cause append.TooManyLive = bare kind.TooManyLive
append_cause append.OutOfMemory = bare kind.OutOfMemory

abbrev pub read_cause : ReadRefusal → Refusal
read_cause read.NoSuchExtent = bare kind.NoSuchExtent
read_cause read.OldGeneration = bare kind.OldGeneration
read_cause read.PastPointer = bare kind.PastPointer
read_cause read.OutOfMemory = bare kind.OutOfMemory

abbrev pub reset_cause : ResetRefusal → Refusal
reset_cause reset.NoSuchExtent = bare kind.NoSuchExtent
reset_cause reset.GenerationSpent = bare kind.GenerationSpent
reset_cause reset.UnknownDependency = bare kind.UnknownDependency
reset_cause reset.NumbersSpent = bare kind.NumbersSpent
reset_cause reset.TooManyLive = bare kind.TooManyLive
reset_cause reset.OutOfMemory = bare kind.OutOfMemory

-- of the count of patches
abbrev pub count_cause : CountRefusal → Refusal
count_cause count.UnknownDependency = bare kind.UnknownDependency
count_cause count.NumbersSpent = bare kind.NumbersSpent
count_cause count.TooManyLive = bare kind.TooManyLive
