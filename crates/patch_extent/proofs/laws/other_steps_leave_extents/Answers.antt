use Rattle.patch_extent.proofs.NextStep.{others_kept}
use Rattle.patch_extent.proofs.laws.other_steps_leave_extents.Goals as goal

pub returns : goal.returns
returns c s run step nothing r = others_kept c.steps_extend.ensures.state s run step nothing r
