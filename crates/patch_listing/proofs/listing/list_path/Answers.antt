use Rattle.patch_listing.proofs.Told.{list_so, list_some}
use Rattle.patch_listing.proofs.listing.list_path.Goals as goal

pub returns : goal.returns
returns g c =
    list_some c.write_keys-listed.result c.args.wanted _ _ _
    (list_so c.write_keys-listed.result c.args.wanted c.in_ok-device.store _ _ _ c.in_ok-device.ensures.opened c.write_keys-listed.ensures)
