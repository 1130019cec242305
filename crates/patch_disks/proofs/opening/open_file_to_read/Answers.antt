use Rattle.std.proofs.Common.{sym, subst, ◌∙◌}
use Rattle.patch_store.specs.Opening.{IsOpened}
use Rattle.patch_disks.proofs.Filed.{contents_alike, lasting_alike, under_alike}
use Rattle.patch_disks.proofs.opening.open_file_to_read.Goals as goal

pub returns-clause-opened : goal.returns-clause-opened
returns-clause-opened g c =
    let now = c.in_ok-device-2.ensures in
    subst (λ blocks. IsOpened blocks c.in_ok-store.store)
    (sym (contents_alike c.in_ok-device.device c.in_ok-device-2.device now.first now.events ∙ c.in_ok-device.ensures.contents)) c.in_ok-store.ensures.opened

pub returns-clause-barriers : goal.returns-clause-barriers
returns-clause-barriers g c = under_alike c.args.barriers c.in_ok-device.device c.in_ok-device-2.device c.in_ok-device-2.ensures.barriers c.in_ok-device.ensures.barriers

pub returns-clause-lasts : goal.returns-clause-lasts
returns-clause-lasts g c =
    let now = c.in_ok-device-2.ensures in
    lasting_alike c.in_ok-device.device c.in_ok-device-2.device now.barriers now.first now.events c.in_ok-device.ensures.lasts
