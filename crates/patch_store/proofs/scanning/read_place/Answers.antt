use Rattle.patch_frame.specs.Slot.{used_fields}
use Rattle.patch_store.specs.Opening.{unchanged}
use Rattle.patch_store.proofs.Scanned.{placed, old_place, past_place}
use Rattle.patch_store.proofs.scanning.read_place.Goals as goal

pub returns-in-Ok : goal.returns-in-Ok
returns-in-Ok g c blocks cache extents =
    rw c.in-Ok.bytes-is (placed c.args.extents.now blocks (used_fields c.args.named.now) c.in-Ok.bytes.items extents c.in-Ok.ensures.allowed
    (c.in-Ok.ensures.bytes (unchanged blocks) cache extents))

pub returns-in-Err-OldGeneration : goal.returns-in-Err-OldGeneration
returns-in-Err-OldGeneration g c blocks cache extents =
    let cause = rw c.in-Err-OldGeneration.field-0-is at c.in-Err-OldGeneration.ensures.cause in
    old_place c.args.extents.now blocks (used_fields c.args.named.now) c.args.slot extents cause

pub returns-in-Err-PastPointer : goal.returns-in-Err-PastPointer
returns-in-Err-PastPointer g c blocks cache extents =
    let cause = rw c.in-Err-PastPointer.field-0-is at c.in-Err-PastPointer.ensures.cause in
    past_place c.args.extents.now blocks (used_fields c.args.named.now) c.args.slot extents cause
