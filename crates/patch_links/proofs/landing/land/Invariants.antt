use Rattle.patch_links.specs.Lists.{classes_of}
use Rattle.patch_links.specs.Invariants.{Stands}
use Rattle.patch_links.proofs.Landed.{ArePartLanded}
use Rattle.patch_links.proofs.landing.land.Given as goal

abbrev pub invariant-loop-key : goal.invariant-loop-key
invariant-loop-key g l = Stands l.nodes.slots l.keys.numbers l.blocks.items × ArePartLanded l.block l.initial.nodes.slots l.nodes.slots l.initial.keys.numbers l.keys.numbers

abbrev pub decreases-loop-key : goal.decreases-loop-key
decreases-loop-key g l = classes_of l.block l.nodes.slots
