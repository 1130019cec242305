use Rattle.std.proofs.Common.{length}
use Rattle.patch_shared.proofs.Lengths.{block_whole, none_refused}
use Rattle.patch_shared.proofs.blocks.cached_block.Goals as goal

pub returns-in-Ok : goal.returns-in-Ok
returns-in-Ok g c run stands less =
    block_whole run c.args.n _ stands.legal (c.executions_are_orderly.ensures.patches run stands.legal) less (c.in-Ok.ensures.answer run stands).1

pub returns-in-Err : goal.returns-in-Err
returns-in-Err g c run stands less = none_refused (length run.first) c.args.n _ less (c.in-Err.ensures.answer run stands)
