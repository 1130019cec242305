use Rattle.patch_cache.proofs.Tries.{begins_none, each_none, each_wave, each_both, none_of}
use Rattle.patch_cache.proofs.laws.tries_join.Goals as goal

pub returns-clause-still : goal.returns-clause-still
returns-clause-still g c steps held device none = each_none g.D.Device steps held device (begins_none steps none)

pub returns-clause-waves : goal.returns-clause-waves
returns-clause-waves g c steps held before now none wave = each_wave g.D.Device steps held before now (begins_none steps none) wave

pub returns-clause-joined : goal.returns-clause-joined
returns-clause-joined g c a b held between before mid now first none second = each_both g.D.Device a b held between before mid now first (none_of between none) second
