use Rattle.std.proofs.Common.{refl}
use Rattle.patch_extent.proofs.Upgraded.{upgraded_view}
use Rattle.patch_extent.proofs.extents.Extents.upgrade.Goals as goal

pub returns : goal.returns
returns g c =
    upgraded_view c.steps_extend.ensures.state c.widened-wide.result _ _ _ _ _ c.in_ok-no.no c.self.view_is c.requires.version c.widened-wide.ensures
    c.in_ok-no.ensures refl
