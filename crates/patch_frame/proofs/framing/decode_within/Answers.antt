use Rattle.std.proofs.Common.{arith}
use Rattle.patch_frame.proofs.FrameFields.{is_found, is_given}
use Rattle.patch_frame.proofs.framing.decode_within.Goals as goal

pub returns-clause-found : goal.returns-clause-found
returns-clause-found c = is_found c.args.limit c.args.bytes.now c.frame_of.result (λ i. omega (arith, c.type_inv.bytes i)) c.frame_of.ensures.length c.frame_of.ensures.exact

pub returns-clause-only : goal.returns-clause-only
returns-clause-only c = is_given c.args.limit c.args.bytes.now c.frame_of.result (omega arith) c.frame_of.ensures.exact
