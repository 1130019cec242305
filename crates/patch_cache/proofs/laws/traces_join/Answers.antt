use Rattle.std.proofs.Common.{[], refl}
use Rattle.patch_cache.proofs.Waving.{none_added, since_is, since_both, continues, continues_both}
use Rattle.patch_cache.proofs.laws.traces_join.Goals as goal

pub returns-clause-none : goal.returns-clause-none
returns-clause-none c cache = let none = none_added cache cache refl in (continues cache cache [] none, since_is cache cache [] none)

pub returns-clause-added : goal.returns-clause-added
returns-clause-added c old now steps added = (continues old now steps added, since_is old now steps added)

pub returns-clause-joined : goal.returns-clause-joined
returns-clause-joined c old mid now first second = (continues_both old mid now first second, since_both old mid now first second)
