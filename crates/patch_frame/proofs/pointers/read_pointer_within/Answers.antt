use Rattle.std.proofs.Common.{arith}
use Rattle.patch_frame.proofs.PointerFields.{is_found}
use Rattle.patch_frame.proofs.pointers.read_pointer_within.Goals as goal

pub returns-clause-found : goal.returns-clause-found
returns-clause-found c = is_found c.args.largest c.args.bytes.now c.pointer_of.result (λ i. omega (arith, c.type_inv.bytes i)) c.requires c.pointer_of.ensures
