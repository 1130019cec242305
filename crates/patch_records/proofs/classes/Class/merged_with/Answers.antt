use Rattle.std.proofs.Common.{arith}
use Rattle.std.proofs.lemmas.Grind.{common_steps}
use Rattle.patch_records.proofs.classes.Class.merged_with.Goals as goal

pub returns : goal.returns
returns g c = grind (arith, common_steps)
