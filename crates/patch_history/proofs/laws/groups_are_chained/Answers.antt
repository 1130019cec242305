use Rattle.patch_history.proofs.Chaining as chaining
use Rattle.patch_history.proofs.laws.groups_are_chained.Goals as goal

pub returns-clause-before : goal.returns-clause-before
returns-clause-before c = chaining.groups_are_chained

pub returns-clause-closed : goal.returns-clause-closed
returns-clause-closed c = chaining.chains_are_kept c.groups_are_kept.ensures
