use Rattle.std.proofs.Common.{arith}
use Rattle.patch_frame.proofs.SuperblockFields.{is_found, is_given}
use Rattle.patch_frame.proofs.superblock.read_superblock.Goals as goal

pub returns-clause-found : goal.returns-clause-found
returns-clause-found c = is_found c.args.bytes.now c.geometry_of.result (λ i. omega (arith, c.type_inv.bytes i)) c.requires c.geometry_of.ensures

pub returns-clause-only : goal.returns-clause-only
returns-clause-only c = is_given c.args.bytes.now c.geometry_of.result c.geometry_of.ensures
