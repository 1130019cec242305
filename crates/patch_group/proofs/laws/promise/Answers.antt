use Rattle.patch_group.proofs.Promising.{closed_sets}
use Rattle.patch_group.proofs.Promising.{in_order}
use Rattle.patch_group.proofs.laws.promise.Goals as goal

pub returns-clause-order : goal.returns-clause-order
returns-clause-order c = closed_sets

pub returns-clause-in_order : goal.returns-clause-in_order
returns-clause-in_order c = in_order c.steps_extend.ensures.state c.executions_are_orderly.ensures.numbered
