use Rattle.std.proofs.Common.{take}
use Rattle.patch_links.specs.Merging.{AreRedirected}
use Rattle.patch_links.proofs.joining.redirect.Given as goal

abbrev pub invariant-loop-no : goal.invariant-loop-no
invariant-loop-no g l = AreRedirected (take l.no-index l.members) l.key l.initial.keys.numbers l.keys.numbers
