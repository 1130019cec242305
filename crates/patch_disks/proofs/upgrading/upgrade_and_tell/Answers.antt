use Rattle.patch_history.specs.Command.{Upgrade}
use Rattle.patch_disks.proofs.Coming.{call_ends}
use Rattle.patch_disks.proofs.Going.{ends_still}
use Rattle.patch_disks.proofs.Upgraded.{upgraded_behind}
use Rattle.patch_disks.proofs.upgrading.upgrade_and_tell.Goals as goal

pub returns-clause-upgraded : goal.returns-clause-upgraded
returns-clause-upgraded g c honest h stands =
    let called = c.in_ok-upgrade_store.ensures h (g.D.Device.contents c.args.device.now) stands in
    upgraded_behind g.D.Device c.crashes_join.ensures.joined h _ _ c.args.device.now c.save.new.device called (c.in_ok-save.ensures.saved honest _ called.stands)

pub returns-in_err-upgrade_store-clause-safe : goal.returns-in_err-upgrade_store-clause-safe
returns-in_err-upgrade_store-clause-safe g c honest h stands = ends_still g.D.Device h _ _ c.args.device.now stands

pub returns-in_err-save-clause-safe : goal.returns-in_err-save-clause-safe
returns-in_err-save-clause-safe g c honest h stands =
    let called = c.in_ok-upgrade_store.ensures h (g.D.Device.contents c.args.device.now) stands in
    call_ends g.D.Device c.crashes_join.ensures.joined h (0, Upgrade) _ _ c.args.device.now c.save.new.device called (c.save.ensures.safe honest _ called.stands)

pub returns-in_err-write_all-clause-safe : goal.returns-in_err-write_all-clause-safe
returns-in_err-write_all-clause-safe g c honest h stands =
    let called = c.in_ok-upgrade_store.ensures h (g.D.Device.contents c.args.device.now) stands in
    call_ends g.D.Device c.crashes_join.ensures.joined h (0, Upgrade) _ _ c.args.device.now c.save.new.device called (c.save.ensures.safe honest _ called.stands)

pub returns-clause-safe : goal.returns-clause-safe
returns-clause-safe g c honest h stands =
    let called = c.in_ok-upgrade_store.ensures h (g.D.Device.contents c.args.device.now) stands in
    call_ends g.D.Device c.crashes_join.ensures.joined h (0, Upgrade) _ _ c.args.device.now c.save.new.device called (c.save.ensures.safe honest _ called.stands)
