use Rattle.patch_listing.proofs.Told.{list_done}
use Rattle.patch_listing.proofs.listing.list_disk.Goals as goal

pub returns-clause-listed : goal.returns-clause-listed
returns-clause-listed g c honest done = list_done c.list-listed.result c.args.wanted _ _ _ _ (c.list-listed.ensures.listed honest) (c.conclude.ensures.done done)
