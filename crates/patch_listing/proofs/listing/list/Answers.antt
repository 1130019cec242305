use Rattle.patch_listing.proofs.Told.{list_so}
use Rattle.patch_listing.proofs.listing.list.Goals as goal

pub returns-clause-listed : goal.returns-clause-listed
returns-clause-listed g c honest =
    list_so c.write_keys-listed.result c.args.wanted c.in_ok-store.store _ _ _ (c.in_ok-store.ensures.opened honest) c.write_keys-listed.ensures
