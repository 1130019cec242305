use Rattle.std.proofs.Common.{refl}
use Rattle.patch_cache.specs.Refusals.{read_cause}
use Rattle.patch_engine_c.proofs.Telling.{refused_so}
use Rattle.patch_engine_c.proofs.Whole.{read_so}
use Rattle.patch_engine_c.proofs.opened.Opened.read.Goals as goal

pub returns-in-Ok : goal.returns-in-Ok
returns-in-Ok c run is =
    read_so run c.args.block c.args.start c.in-Ok.bytes.now c.args.into.now c.copy_out.new.into c.copy_out.result _
    (c.executions_are_orderly.ensures.blocks run c.args.block is.cache_is.legal) (c.in-Ok.ensures run is) c.copy_out.ensures.answer c.copy_out.ensures.bytes

pub returns-in-Err : goal.returns-in-Err
returns-in-Err c run is = refused_so c.kind.result (read_cause c.in-Err.refusal) _ _ c.kind.ensures (c.in-Err.ensures run is, refl)
