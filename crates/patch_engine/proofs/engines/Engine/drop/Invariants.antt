use Rattle.std.proofs.Common.{length}
use Rattle.patch_engine.proofs.engines.Engine.drop.Given as goal

abbrev pub decreases-loop-flight : goal.decreases-loop-flight
decreases-loop-flight g l = length l.held.items
