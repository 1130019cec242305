use Rattle.patch_history.proofs.Continuing as continuing
use Rattle.patch_history.proofs.laws.plans_continue.Goals as goal

pub returns-clause-whole : goal.returns-clause-whole
returns-clause-whole c = continuing.wholes_join c.plans_join.ensures

pub returns-clause-cut : goal.returns-clause-cut
returns-clause-cut c = continuing.cuts_join c.plans_join.ensures

pub returns-clause-stopped : goal.returns-clause-stopped
returns-clause-stopped c = continuing.wholes_are_cuts c.plans_join.ensures

pub returns-clause-shelf : goal.returns-clause-shelf
returns-clause-shelf c = continuing.shelves_go_on
