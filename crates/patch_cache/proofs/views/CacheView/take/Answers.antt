use Rattle.std.proofs.Common.{true, false}
use Rattle.patch_cache.proofs.views.CacheView.take.Goals as goal

pub returns-clause-accepted : goal.returns-clause-accepted
returns-clause-accepted g c = λ run names at. c.take_of.ensures.accepted true run names at

pub returns-clause-accepted_paged : goal.returns-clause-accepted_paged
returns-clause-accepted_paged g c = λ run names at. c.take_of.ensures.accepted false run names at
