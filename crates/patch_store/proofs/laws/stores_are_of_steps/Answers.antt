use Rattle.patch_store.proofs.Alike.{stores_are_of_steps}
use Rattle.patch_store.proofs.laws.stores_are_of_steps.Goals as goal

pub returns : goal.returns
returns c = stores_are_of_steps c.shelves_are_single.ensures.shelf c.counts_are_single.ensures
