-- What is told where writers are not served to the end, and which device is left.
use Rattle.std.specs.Prelude.{◌≡◌, ◌⊎◌, MatchOption}
use Rattle.patch_device.specs.SameDevice.{IsSameDevice}
use Rattle.patch_device.specs.declared.devices.Device.{Ghosts}
use Rattle.patch_model.specs.declared.refusals.RefusalKind.TheVariants as kind
use Rattle.patch_model.specs.Refusing.{bare}
use Rattle.patch_shared.specs.Refusals.{serve_cause}
use Rattle.patch_shared.specs.Serving.{IsGivenBack}
use Rattle.patch_shared.specs.declared.faults.Cause.{Cause}
use Rattle.patch_shared.specs.declared.faults.Cause.TheVariants as cause
use Rattle.patch_disks.specs.declared.endings.Stop.{Stop}
use Rattle.patch_disks.specs.declared.endings.Stop.TheVariants as stop
use Rattle.patch_files.specs.declared.serving.Unserved.{Unserved}

-- what the cause of a fault comes to: that a sync failed is a fault of the disk
abbrev pub stop_for : Cause → Stop
stop_for cause.SyncFailed = stop.Refused (bare kind.Disk)
stop_for why = stop.Refused (serve_cause why)

-- there is a cause of serving, and the device comes back where that gives it back; or the device that was handed in comes back
abbrev pub IsUnserved : {D : Type 0} → Ghosts D → (device : D) → Unserved D → Type 0
IsUnserved g device u =
    ((why : Cause) × (u.why ≡ stop_for why) × IsGivenBack g device why u.device) ⊎ MatchOption u.device ⊥ (IsSameDevice g device)
