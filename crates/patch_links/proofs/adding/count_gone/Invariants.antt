use Rattle.patch_links.specs.Adding.{LeadNowhere}
use Rattle.patch_links.proofs.adding.count_gone.Given as goal

abbrev pub invariant-loop-at : goal.invariant-loop-at
invariant-loop-at g l = LeadNowhere l.keys.numbers l.numbers l.at
