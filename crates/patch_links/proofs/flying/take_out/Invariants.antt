use Rattle.patch_links.proofs.Flights.{AreTakenOut}
use Rattle.patch_links.proofs.flying.take_out.Given as goal

abbrev pub invariant-loop-key : goal.invariant-loop-key
invariant-loop-key g l = AreTakenOut l.block l.keys.numbers l.initial.nodes.slots l.nodes.slots l.ready l.key-index
