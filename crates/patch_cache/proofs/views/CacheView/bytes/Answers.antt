use Rattle.std.proofs.Common.{true, false}
use Rattle.patch_cache.proofs.views.CacheView.bytes.Goals as goal

pub returns-clause-answer : goal.returns-clause-answer
returns-clause-answer g c = λ run names at. c.bytes_of.ensures.answer true run names at

pub returns-clause-paged : goal.returns-clause-paged
returns-clause-paged g c = λ run names at. c.bytes_of.ensures.answer false run names at
