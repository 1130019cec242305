use Rattle.patch_listing.proofs.Told.{told_some_done}
use Rattle.patch_listing.proofs.statting.stat_file.Goals as goal

pub returns : goal.returns
returns g c done = told_some_done c.stat_path-told.result c.args.detail _ _ _ c.stat_path-told.ensures (c.conclude.ensures.done done)
