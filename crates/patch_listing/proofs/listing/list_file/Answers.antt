use Rattle.patch_listing.proofs.Told.{list_some_done}
use Rattle.patch_listing.proofs.listing.list_file.Goals as goal

pub returns : goal.returns
returns g c done = list_some_done c.list_path-listed.result c.args.wanted _ _ _ c.list_path-listed.ensures (c.conclude.ensures.done done)
