use Rattle.std.proofs.Common.{arith}
use Rattle.patch_frame.proofs.SlotFields.{is_found, is_given}
use Rattle.patch_frame.proofs.slots.read_slot_within.Goals as goal

pub returns-clause-found : goal.returns-clause-found
returns-clause-found c = is_found c.args.longest c.args.bytes.now c.slot_of.result (λ i. omega (arith, c.type_inv.bytes i)) c.requires c.slot_of.ensures

pub returns-clause-only : goal.returns-clause-only
returns-clause-only c = is_given c.args.longest c.args.bytes.now c.slot_of.result (omega arith) c.slot_of.ensures
