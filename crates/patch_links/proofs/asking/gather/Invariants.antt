use Rattle.std.proofs.Common.{◌≡◌, ◌++◌, drop}
use Rattle.patch_links.specs.Ready.{gathered}
use Rattle.patch_links.proofs.asking.gather.Given as goal

abbrev pub invariant-loop-key : goal.invariant-loop-key
invariant-loop-key g l = l.all.items ++ gathered l.nodes.slots (drop l.key-index l.ready) ≡ gathered l.nodes.slots l.ready
