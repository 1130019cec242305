-- What the refusals of a store tell.
use Rattle.std.specs.Prelude.{Option, Some, None}
use Rattle.patch_model.specs.declared.refusals.RefusalKind.TheVariants as kind
use Rattle.patch_model.specs.declared.refusals.Refusal.{Refusal}
use Rattle.patch_model.specs.Refusing.{bare, with_number}
use Rattle.patch_recovery.specs.Reading.{Fault}
use Rattle.patch_recovery.specs.Reading as reading
use Rattle.patch_history.specs.declared.refusals.MakeRefusal.{MakeRefusal}
use Rattle.patch_history.specs.declared.refusals.MakeRefusal.TheVariants as make
use Rattle.patch_history.specs.declared.refusals.OpenFault.{OpenFault}
use Rattle.patch_history.specs.declared.refusals.OpenFault.TheVariants as opening
use Rattle.patch_history.specs.declared.refusals.PutRefusal.{PutRefusal}
use Rattle.patch_history.specs.declared.refusals.PutRefusal.TheVariants as put
use Rattle.patch_history.specs.declared.refusals.GetRefusal.{GetRefusal}
use Rattle.patch_history.specs.declared.refusals.GetRefusal.TheVariants as get
use Rattle.patch_history.specs.declared.refusals.DeleteRefusal.{DeleteRefusal}
use Rattle.patch_history.specs.declared.refusals.DeleteRefusal.TheVariants as delete
use Rattle.patch_history.specs.declared.refusals.ReclaimRefusal.{ReclaimRefusal}
use Rattle.patch_history.specs.declared.refusals.ReclaimRefusal.TheVariants as reclaim
use Rattle.patch_history.specs.declared.refusals.UpgradeRefusal.{UpgradeRefusal}
use Rattle.patch_history.specs.declared.refusals.UpgradeRefusal.TheVariants as upgrade

abbrev pub make_cause : MakeRefusal → Refusal
make_cause make.Geometry = bare kind.Geometry
make_cause make.OutOfMemory = bare kind.OutOfMemory

abbrev pub open_cause : OpenFault → Refusal
open_cause opening.BadSuper = bare kind.BadSuper
open_cause opening.FileSize = bare kind.FileSize
open_cause opening.BadPointer = bare kind.BadPointer
open_cause (opening.BadSlot slot) = with_number kind.BadSlot slot
open_cause (opening.BadFrame slot) = with_number kind.BadFrame slot
open_cause (opening.DuplicateKey slot) = with_number kind.DuplicateKey slot
open_cause opening.OutOfMemory = bare kind.OutOfMemory

abbrev pub put_cause : PutRefusal → Refusal
put_cause put.KeyLength = bare kind.KeyLength
put_cause put.ValueLength = bare kind.ValueLength
put_cause put.IndexFull = bare kind.IndexFull
put_cause put.NoSpace = bare kind.NoSpace
put_cause put.NumbersSpent = bare kind.NumbersSpent
put_cause put.TooManyLive = bare kind.TooManyLive
put_cause put.OutOfMemory = bare kind.OutOfMemory

abbrev pub get_cause : GetRefusal → Refusal
get_cause get.KeyLength = bare kind.KeyLength
get_cause get.OutOfMemory = bare kind.OutOfMemory

abbrev pub delete_cause : DeleteRefusal → Refusal
delete_cause delete.KeyLength = bare kind.KeyLength
delete_cause delete.NoKey = bare kind.NoKey
delete_cause delete.NumbersSpent = bare kind.NumbersSpent
delete_cause delete.TooManyLive = bare kind.TooManyLive
delete_cause delete.OutOfMemory = bare kind.OutOfMemory

abbrev pub reclaim_cause : ReclaimRefusal → Refusal
reclaim_cause reclaim.NoSuchExtent = bare kind.NoSuchExtent
reclaim_cause reclaim.EmptyExtent = bare kind.EmptyExtent
reclaim_cause reclaim.OpenExtent = bare kind.OpenExtent
reclaim_cause reclaim.GenerationSpent = bare kind.GenerationSpent
reclaim_cause reclaim.NoSpace = bare kind.NoSpace
reclaim_cause reclaim.NumbersSpent = bare kind.NumbersSpent
reclaim_cause reclaim.TooManyLive = bare kind.TooManyLive
reclaim_cause reclaim.OutOfMemory = bare kind.OutOfMemory

abbrev pub upgrade_cause : UpgradeRefusal → Refusal
upgrade_cause upgrade.AlreadyVersion2 = bare kind.AlreadyVersion2
upgrade_cause upgrade.NumbersSpent = bare kind.NumbersSpent
upgrade_cause upgrade.TooManyLive = bare kind.TooManyLive
upgrade_cause upgrade.OutOfMemory = bare kind.OutOfMemory

-- the fault that blocks are read with, unless there was no memory
abbrev pub fault_of : OpenFault → Option Fault
fault_of opening.BadSuper = Some reading.BadSuper
fault_of opening.FileSize = Some reading.FileSize
fault_of opening.BadPointer = Some reading.BadPointer
fault_of (opening.BadSlot slot) = Some (reading.BadSlot slot)
fault_of (opening.BadFrame slot) = Some (reading.BadFrame slot)
fault_of (opening.DuplicateKey slot) = Some (reading.DuplicateKey slot)
fault_of opening.OutOfMemory = None
