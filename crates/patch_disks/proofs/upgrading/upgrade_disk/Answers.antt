use Rattle.patch_disks.proofs.Upgraded.{done_so}
use Rattle.patch_disks.proofs.upgrading.upgrade_disk.Goals as goal

pub returns-clause-done : goal.returns-clause-done
returns-clause-done g c honest done =
    done_so c.upgrade-upgraded.result _ _ _ (c.conclude.ensures.done done) (c.upgrade-upgraded.ensures.upgraded honest)
