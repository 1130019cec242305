use Rattle.patch_cache.proofs.Waving.{gone_still, gone_both, kept_unmoved, kept_both}
use Rattle.patch_cache.proofs.laws.stretches_join.Goals as goal

pub returns-clause-still : goal.returns-clause-still
returns-clause-still g c = gone_still

pub returns-clause-joined : goal.returns-clause-joined
returns-clause-joined g c = gone_both

pub returns-clause-still_kept : goal.returns-clause-still_kept
returns-clause-still_kept g c = kept_unmoved g.D.Device

pub returns-clause-kept : goal.returns-clause-kept
returns-clause-kept g c = kept_both g.D.Device
