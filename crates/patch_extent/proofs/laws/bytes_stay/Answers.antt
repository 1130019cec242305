use Rattle.patch_extent.proofs.Bytes.{below_stays, reset_stays}
use Rattle.patch_extent.proofs.laws.bytes_stay.Goals as goal

pub returns-clause-appends : goal.returns-clause-appends
returns-clause-appends c run a old choices k extent place h some room known inside below =
    below_stays c.steps_extend.ensures.state c.executions_are_orderly.ensures.blocks run a old choices k extent place h some room known inside below

pub returns-clause-resets : goal.returns-clause-resets
returns-clause-resets c run old choices reset after extent place h known inside =
    reset_stays c.steps_extend.ensures.state c.executions_are_orderly.ensures.blocks run old choices reset after extent place h known inside
