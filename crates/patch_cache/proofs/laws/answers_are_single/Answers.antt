use Rattle.patch_cache.proofs.Single.{single}
use Rattle.patch_cache.proofs.laws.answers_are_single.Goals as goal

pub returns : goal.returns
returns c = single c.pairs_merge.ensures.legal
