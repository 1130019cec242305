use Rattle.std.proofs.Common.{length}
use Rattle.patch_shared.proofs.completing.end_writes.Given as goal

abbrev pub decreases-loop-landed : goal.decreases-loop-landed
decreases-loop-landed g l = length l.landed.items
