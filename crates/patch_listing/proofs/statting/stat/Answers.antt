use Rattle.patch_listing.proofs.Told.{told_so}
use Rattle.patch_listing.proofs.statting.stat.Goals as goal

pub returns-clause-told : goal.returns-clause-told
returns-clause-told g c honest =
    told_so c.write_detail-told.result c.args.detail c.in_ok-store.store _ _ _ (c.in_ok-store.ensures.opened honest) c.write_detail-told.ensures
