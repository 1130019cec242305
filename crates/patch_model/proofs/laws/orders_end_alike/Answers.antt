use Rattle.patch_model.proofs.Leaving as leaving
use Rattle.patch_model.proofs.laws.orders_end_alike.Goals as goal

pub returns : goal.returns
returns c = leaving.same_set
