use Rattle.patch_history.specs.Command.{Upgrade, Done}
use Rattle.patch_disks.proofs.Calling.{called_so}
use Rattle.patch_disks.proofs.upgrading.upgrade_store.Goals as goal

pub returns-in-Ok : goal.returns-in-Ok
returns-in-Ok c h contents stands =
    called_so c.steps_extend.ensures.state c.images_stay.ensures c.disks_stay.ensures h 0 Upgrade Done c.args.store.now c.upgrade.new.self contents
    (c.in-Ok.ensures.answer 0) stands
