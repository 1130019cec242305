use Rattle.std.proofs.Common.{arith}
use Rattle.std.proofs.lemmas.Grind.{common_steps}
use Rattle.patch_shared.proofs.working.write_all.Goals as goal

pub loop-command-preserved : goal.loop-command-preserved
loop-command-preserved g c = grind (arith, common_steps)
