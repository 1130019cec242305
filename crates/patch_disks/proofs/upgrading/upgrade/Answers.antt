use Rattle.std.proofs.Common.{refl, sym, subst}
use Rattle.patch_disks.specs.Running.{StandsOn}
use Rattle.patch_store.specs.Opening.{at_opening}
use Rattle.patch_disks.proofs.Calling.{opened_so}
use Rattle.patch_disks.proofs.Going.{went_nowhere, went_so}
use Rattle.patch_disks.proofs.Upgraded.{each_upgraded}
use Rattle.patch_disks.proofs.upgrading.upgrade.Goals as goal

pub returns-clause-upgraded : goal.returns-clause-upgraded
returns-clause-upgraded g c honest =
    let opened = c.in_ok-store.ensures.opened honest in
    let still = c.open_store.ensures.device.honesty.0 honest in
    let h = at_opening (g.D.Device.contents c.args.device.now) opened.ledger in
    each_upgraded g.D.Device c.crashes_join.ensures.joined c.upgrade_and_tell-upgraded.result _ _ opened c.args.device.now c.open_store.new.device c.upgrade_and_tell-upgraded.new.device
    c.open_store.ensures.device c.open_store.ensures.no_moment (c.open_store.ensures.same honest)
    (c.upgrade_and_tell-upgraded.ensures.upgraded still h (subst (StandsOn _ h) (sym (c.open_store.ensures.same honest)) (opened_so _ _ opened)))
    (c.upgrade_and_tell-upgraded.ensures.lasts still)

pub returns-in_err-store-clause-crash : goal.returns-in_err-store-clause-crash
returns-in_err-store-clause-crash g c honest lasting =
    went_nowhere c.first_bytes_are_left.ensures g.D.Device c.args.device.now c.open_store.new.device c.open_store.ensures.device c.open_store.ensures.no_moment lasting

pub returns-clause-crash : goal.returns-clause-crash
returns-clause-crash g c honest lasting =
    let opened = c.in_ok-store.ensures.opened honest in
    let still = c.open_store.ensures.device.honesty.0 honest in
    let h = at_opening (g.D.Device.contents c.args.device.now) opened.ledger in
    went_so c.first_bytes_are_left.ensures g.D.Device c.crashes_join.ensures.joined _ c.args.device.now c.open_store.new.device c.upgrade_and_tell-upgraded.new.device opened
    c.open_store.ensures.device c.open_store.ensures.no_moment lasting
    (c.upgrade_and_tell-upgraded.ensures.safe still h (subst (StandsOn _ h) (sym (c.open_store.ensures.same honest)) (opened_so _ _ opened)))
