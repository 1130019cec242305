use Rattle.std.proofs.Common.{arith}
use Rattle.patch_frame.proofs.RunFrames.{is_given}
use Rattle.patch_frame.proofs.runs.frames_within.Goals as goal

pub returns-clause-only : goal.returns-clause-only
returns-clause-only g c = is_given (λ frames. frames.items) c.args.limit c.args.bytes.now c.run_of.result (omega arith) c.run_of.ensures.found c.run_of.ensures.refused
