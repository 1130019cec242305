use Rattle.patch_recovery.proofs.Closing as closing
use Rattle.patch_recovery.proofs.laws.cached_blocks_open.Goals as goal

pub returns : goal.returns
returns c =
    let slots = c.slots_are_read_again.ensures in
    let pointers = c.pointers_are_read_again.ensures in
    closing.cached_disk (record { slot_read = slots.read; slot_long = slots.length; pointer_read = pointers })
