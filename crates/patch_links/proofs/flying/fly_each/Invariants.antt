use Rattle.std.proofs.Common.{take, ◌≡◌, length}
use Rattle.patch_model.specs.Entry.{is_among}
use Rattle.patch_links.specs.MarkFlight.{AreNodesFlown}
use Rattle.patch_links.proofs.flying.fly_each.Given as goal

abbrev pub invariant-loop-key : goal.invariant-loop-key
invariant-loop-key g l = AreNodesFlown (is_among (take l.key-index l.ready)) l.initial.nodes.slots l.nodes.slots × (length l.nodes.slots ≡ length l.initial.nodes.slots)
