use Rattle.patch_links.proofs.Flights.{AreRaised}
use Rattle.patch_links.proofs.flying.raise_all.Given as goal

abbrev pub invariant-loop-place : goal.invariant-loop-place
invariant-loop-place g l = AreRaised l.block l.from l.keys.numbers l.initial.nodes.slots l.nodes.slots l.place
