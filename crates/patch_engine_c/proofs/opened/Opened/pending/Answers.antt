use Rattle.std.proofs.Common.{refl}
use Rattle.patch_group.specs.Refusals.{group_cause}
use Rattle.patch_engine_c.proofs.Telling.{refused_so}
use Rattle.patch_engine_c.proofs.opened.Opened.pending.Goals as goal

pub returns-in-Err : goal.returns-in-Err
returns-in-Err c run is = refused_so c.kind.result (group_cause c.in-Err.refusal) _ _ c.kind.ensures (c.in-Err.ensures.cause, refl)
