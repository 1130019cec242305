use Rattle.patch_model.specs.declared.refusals.RefusalKind.TheVariants as kind
use Rattle.patch_model.specs.Refusing.{bare}
use Rattle.patch_engine_c.proofs.Telling.{told_so, completed_so}
use Rattle.patch_engine_c.proofs.opened.Opened.complete.Goals as goal

pub returns : goal.returns
returns c run is =
    told_so (λ _. bare kind.Stranger) c.complete.result c.told.result _ _ c.told.ensures
    (completed_so run c.args.block c.args.number c.args.self.now.engine c.complete.new.self c.complete.result (c.complete.ensures.done run is) (c.complete.ensures.stranger run is)
    (c.complete.ensures.refused run is))
