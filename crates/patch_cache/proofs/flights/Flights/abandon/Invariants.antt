use Rattle.std.proofs.Common.{length}
use Rattle.patch_cache.proofs.flights.Flights.abandon.Given as goal

abbrev pub decreases-loop-flight : goal.decreases-loop-flight
decreases-loop-flight g l = length l.held.items
