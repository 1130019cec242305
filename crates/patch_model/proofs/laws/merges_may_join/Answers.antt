use Rattle.patch_model.proofs.Orders as orders
use Rattle.patch_model.proofs.laws.merges_may_join.Goals as goal

pub returns : goal.returns
returns c = orders.may_join
