use Rattle.std.proofs.Common.{rules}
use Rattle.patch_graph.proofs.between.lesser.Goals as goal

pub returns-then-x-y : goal.returns-then-x-y
returns-then-x-y c = search rules

pub returns-else-x-y : goal.returns-else-x-y
returns-else-x-y c = search rules
