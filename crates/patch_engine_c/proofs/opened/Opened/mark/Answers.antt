use Rattle.std.proofs.Common.{refl}
use Rattle.patch_model.specs.declared.refusals.RefusalKind.TheVariants as kind
use Rattle.patch_model.specs.Refusing.{bare}
use Rattle.patch_engine_c.proofs.Telling.{refused_so}
use Rattle.patch_engine_c.proofs.opened.Opened.mark.Goals as goal

pub returns-in_default : goal.returns-in_default
returns-in_default c run is = refused_so kind.Unknown (bare kind.Unknown) _ _ refl (refl, c.in_default.ensures run is, refl)
