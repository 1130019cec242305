use Rattle.patch_listing.proofs.Told.{told_done}
use Rattle.patch_listing.proofs.statting.stat_disk.Goals as goal

pub returns-clause-told : goal.returns-clause-told
returns-clause-told g c honest done = told_done c.stat-told.result c.args.detail _ _ _ _ (c.stat-told.ensures.told honest) (c.conclude.ensures.done done)
