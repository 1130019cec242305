use Rattle.patch_history.proofs.Walking as walking
use Rattle.patch_history.proofs.laws.plans_are_of_stores.Goals as goal

pub returns : goal.returns
returns c = walking.plans_are_of_stores c.stores_grow.ensures.grow c.stores_grow.ensures.others
