use Rattle.patch_links.proofs.Landings.{ArePartTold}
use Rattle.patch_links.proofs.landing.tell_all.Given as goal

abbrev pub invariant-loop-no : goal.invariant-loop-no
invariant-loop-no g l = ArePartTold l.keys.numbers l.followers l.initial.nodes.slots l.nodes.slots l.blocks.items l.no-index
