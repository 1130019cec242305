use Rattle.std.proofs.Common.{refl}
use Rattle.patch_frame.specs.Slot.{spelling}
use Rattle.patch_frame.proofs.SlotFields.{slot_again, length-spelling}
use Rattle.patch_frame.proofs.laws.slots_are_read_again.Goals as goal

pub returns-clause-read : goal.returns-clause-read
returns-clause-read c = λ longest s small fits. slot_again longest (spelling s) s small fits refl

pub returns-clause-length : goal.returns-clause-length
returns-clause-length c = λ longest s fits. length-spelling longest s fits
