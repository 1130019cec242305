use Rattle.patch_cache.specs.Refusals.{evict_cause}
use Rattle.patch_engine_c.proofs.Telling.{told_so, evicted_so}
use Rattle.patch_engine_c.proofs.opened.Opened.evict.Goals as goal

pub returns : goal.returns
returns c run is =
    told_so evict_cause c.evict.result c.told.result _ _ c.told.ensures
    (evicted_so run c.args.block c.args.self.now.engine c.evict.new.self c.evict.result (c.evict.ensures.answer run is) c.evict.ensures.gone c.evict.ensures.rest c.evict.ensures.refused)
