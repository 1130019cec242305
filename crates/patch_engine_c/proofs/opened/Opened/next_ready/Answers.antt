use Rattle.std.proofs.Common.{refl}
use Rattle.patch_model.specs.declared.refusals.RefusalKind.TheVariants as kind
use Rattle.patch_model.specs.Refusing.{bare}
use Rattle.patch_engine_c.proofs.Telling.{refused_so}
use Rattle.patch_engine_c.proofs.opened.Opened.next_ready.Goals as goal

pub returns-in_default-clause-told : goal.returns-in_default-clause-told
returns-in_default-clause-told c run is = refused_so kind.NothingReady (bare kind.NothingReady) _ _ refl (refl, c.in_default.ensures.answer run is, refl)
