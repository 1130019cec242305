use Rattle.std.proofs.Common.{sym, subst}
use Rattle.patch_store.specs.Opening.{IsOpened}
use Rattle.patch_disks.proofs.opening.open_file.Goals as goal

pub returns-clause-opened : goal.returns-clause-opened
returns-clause-opened g c = subst (λ blocks. IsOpened blocks c.in_ok-store.store) (sym c.in_ok-device.ensures.contents) c.in_ok-store.ensures.opened
