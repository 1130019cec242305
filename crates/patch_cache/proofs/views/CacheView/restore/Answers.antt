use Rattle.std.proofs.Common.{true, false}
use Rattle.patch_cache.proofs.views.CacheView.restore.Goals as goal

pub returns-clause-answer : goal.returns-clause-answer
returns-clause-answer g c = λ run names at. c.restore_of.ensures.answer true run names at

pub returns-clause-paged : goal.returns-clause-paged
returns-clause-paged g c = λ run names at. c.restore_of.ensures.answer false run names at

pub returns-clause-as_before : goal.returns-clause-as_before
returns-clause-as_before g c = λ run names before at old lent. c.restore_of.ensures.as_before true run names before at old lent

pub returns-clause-as_before_paged : goal.returns-clause-as_before_paged
returns-clause-as_before_paged g c = λ run names before at old lent. c.restore_of.ensures.as_before false run names before at old lent
