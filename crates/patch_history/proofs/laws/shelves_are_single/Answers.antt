use Rattle.patch_history.proofs.Single as single
use Rattle.patch_history.proofs.laws.shelves_are_single.Goals as goal

pub returns-clause-whole : goal.returns-clause-whole
returns-clause-whole c = single.shelves_are_of_changes

pub returns-clause-changes : goal.returns-clause-changes
returns-clause-changes c = single.changes_are_single c.slots_are_read_again.ensures.read c.laws_below.ensures

pub returns-clause-shelf : goal.returns-clause-shelf
returns-clause-shelf c = single.shelves_are_single c.slots_are_read_again.ensures.read c.laws_below.ensures
