use Rattle.patch_recovery.proofs.Closing as closing
use Rattle.patch_recovery.proofs.laws.closed_disks_open.Goals as goal

pub returns-clause-open : goal.returns-clause-open
returns-clause-open c =
    let slots = c.slots_are_read_again.ensures in
    let pointers = c.pointers_are_read_again.ensures in
    closing.closed_disk (record { slot_read = slots.read; slot_long = slots.length; pointer_read = pointers })

pub returns-clause-words : goal.returns-clause-words
returns-clause-words c =
    let slots = c.slots_are_read_again.ensures in
    let pointers = c.pointers_are_read_again.ensures in
    closing.closed_words (record { slot_read = slots.read; slot_long = slots.length; pointer_read = pointers })
