use Rattle.patch_engine.specs.Refusals.{live_cause}
use Rattle.patch_engine_c.proofs.Telling.{told_so, renewed_so}
use Rattle.patch_engine_c.proofs.opened.Opened.renew.Goals as goal

pub returns : goal.returns
returns c run is =
    told_so (λ _. live_cause) c.renew.result c.told.result _ _ c.told.ensures
    (renewed_so run c.args.self.now.engine c.renew.new.self c.renew.result (c.renew.ensures.done run is) c.renew.ensures.blocks (c.renew.ensures.cause run is) (c.renew.ensures.refused run is))
