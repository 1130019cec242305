-- What the refusals of devices come to.
use Rattle.patch_model.specs.declared.refusals.Refusal.{Refusal}
use Rattle.patch_model.specs.declared.refusals.RefusalKind.TheVariants as kind
use Rattle.patch_model.specs.Refusing.{bare}
use Rattle.patch_device.specs.declared.refusals.DeviceRefusal.{DeviceRefusal}
use Rattle.patch_device.specs.declared.refusals.DeviceRefusal.TheVariants as device
use Rattle.patch_device.specs.declared.refusals.FileRefusal.{FileRefusal}
use Rattle.patch_device.specs.declared.refusals.FileRefusal.TheVariants as file
use Rattle.patch_device.specs.declared.refusals.LoadFault.{LoadFault}
use Rattle.patch_device.specs.declared.refusals.LoadFault.TheVariants as load

-- why a call of a device is refused
abbrev pub device_cause : DeviceRefusal → Refusal
device_cause device.NoSuchBlock = bare kind.NoSuchBlock
device_cause device.Fault = bare kind.Fault

-- why a file isn't taken as a device
abbrev pub file_cause : FileRefusal → Refusal
file_cause file.FileSize = bare kind.FileSize
file_cause file.Disk = bare kind.Disk
file_cause file.OutOfMemory = bare kind.OutOfMemory

-- why the blocks weren't loaded
abbrev pub load_cause : LoadFault → Refusal
load_cause load.Fault = bare kind.Fault
load_cause load.OutOfMemory = bare kind.OutOfMemory
