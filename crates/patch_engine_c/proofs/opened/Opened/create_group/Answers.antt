use Rattle.std.proofs.Common.{refl}
use Rattle.patch_group.specs.Refusals.{group_cause}
use Rattle.patch_engine_c.proofs.Telling.{refused_so}
use Rattle.patch_engine_c.proofs.opened.Opened.create_group.Goals as goal

pub returns-in-Err : goal.returns-in-Err
returns-in-Err c = refused_so c.kind.result (group_cause c.in-Err.refusal) _ _ c.kind.ensures (c.in-Err.ensures.cause, c.in-Err.ensures.refused, refl)
