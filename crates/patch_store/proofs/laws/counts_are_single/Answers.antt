use Rattle.patch_store.proofs.Alike.{counts_are_single}
use Rattle.patch_store.proofs.laws.counts_are_single.Goals as goal

pub returns : goal.returns
returns c = counts_are_single c.plans_continue.ensures.shelf c.shelves_are_single.ensures.changes
