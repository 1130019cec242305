use Rattle.patch_model.proofs.Orders as orders
use Rattle.patch_model.proofs.laws.executions_are_orderly.Goals as goal

pub returns-clause-patches : goal.returns-clause-patches
returns-clause-patches c = orders.orderly_run

pub returns-clause-numbered : goal.returns-clause-numbered
returns-clause-numbered c = orders.numbered_run

pub returns-clause-blocks : goal.returns-clause-blocks
returns-clause-blocks c = orders.orderly_block
