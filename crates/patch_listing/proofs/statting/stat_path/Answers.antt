use Rattle.patch_listing.proofs.Told.{told_so, told_some}
use Rattle.patch_listing.proofs.statting.stat_path.Goals as goal

pub returns : goal.returns
returns g c =
    told_some c.write_detail-told.result c.args.detail _ _ _
    (told_so c.write_detail-told.result c.args.detail c.in_ok-device.store _ _ _ c.in_ok-device.ensures.opened c.write_detail-told.ensures)
