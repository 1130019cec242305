-- What the refusals of groups tell, and of patches that are made with groups.
use Rattle.std.specs.Prelude.{◌≡◌, ◌⊎◌, Option}
use Rattle.patch_model.specs.declared.refusals.RefusalKind.TheVariants as kind
use Rattle.patch_model.specs.declared.refusals.Refusal.{Refusal as Cause}
use Rattle.patch_model.specs.Refusing.{bare, with_number}
use Rattle.patch_cache.specs.Refusals.{IsCause}
use Rattle.patch_cache.specs.declared.refusals.FlushRefusal.{FlushRefusal}
use Rattle.patch_cache.specs.declared.refusals.FlushRefusal.TheVariants as flush
use Rattle.patch_group.specs.declared.refusals.GroupRefusal.{GroupRefusal}
use Rattle.patch_group.specs.declared.refusals.GroupRefusal.TheVariants as group
use Rattle.patch_group.specs.declared.refusals.SyncRefusal.{SyncRefusal}
use Rattle.patch_group.specs.declared.refusals.SyncRefusal.TheVariants as sync

abbrev pub group_cause : GroupRefusal → Cause
group_cause group.NoSuchGroup = bare kind.NoSuchGroup
group_cause group.SameGroup = bare kind.SameGroup
group_cause group.Started = bare kind.Started
group_cause group.Sealed = bare kind.Sealed
group_cause group.Engaged = bare kind.Engaged
group_cause group.NotEngaged = bare kind.NotEngaged
group_cause group.TooManyGroups = bare kind.TooManyGroups
group_cause group.OutOfMemory = bare kind.OutOfMemory

abbrev pub sync_cause : SyncRefusal → Cause
sync_cause sync.NoSuchGroup = bare kind.NoSuchGroup
sync_cause (sync.DeviceGaveUp block) = with_number kind.DeviceGaveUp block
sync_cause sync.SyncFailed = bare kind.SyncFailed
sync_cause sync.OutOfMemory = bare kind.OutOfMemory

-- the refusal of a write, as one of a sync
abbrev pub sync_of_flush : FlushRefusal → SyncRefusal
sync_of_flush (flush.DeviceGaveUp block) = sync.DeviceGaveUp block
sync_of_flush flush.SyncFailed = sync.SyncFailed
sync_of_flush flush.OutOfMemory = sync.OutOfMemory

-- a patch is refused for this cause, or for want of memory, also where there is one
abbrev pub IsCauseOf : Option Cause → Cause → Type 0
IsCauseOf cause refusal = IsCause cause refusal ⊎ (refusal ≡ bare kind.OutOfMemory)
