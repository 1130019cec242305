use Rattle.std.proofs.Common.{length}
use Rattle.patch_frame.specs.Run.{IsRead}
use Rattle.patch_frame.proofs.runs.run_of.Given as goal

abbrev pub invariant-loop-rest : goal.invariant-loop-rest
invariant-loop-rest g l = IsRead l.limit l.bytes l.frames.items l.rest

abbrev pub decreases-loop-rest : goal.decreases-loop-rest
decreases-loop-rest g l = length l.rest
