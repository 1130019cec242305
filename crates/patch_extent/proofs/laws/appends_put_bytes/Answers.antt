use Rattle.patch_extent.proofs.Bytes.{bytes_put}
use Rattle.patch_extent.proofs.laws.appends_put_bytes.Goals as goal

pub returns : goal.returns
returns c run a old choices h known room =
    bytes_put c.steps_extend.ensures.state c.executions_are_orderly.ensures.blocks run a old choices h known room
