use Rattle.patch_history.proofs.Composing as composing
use Rattle.patch_history.proofs.laws.frames_compose.Goals as goal

pub returns-clause-whole : goal.returns-clause-whole
returns-clause-whole c = composing.frames_compose c.plans_join.ensures

pub returns-clause-appended : goal.returns-clause-appended
returns-clause-appended c = composing.appends_are_cuts c.plans_join.ensures

pub returns-clause-begun : goal.returns-clause-begun
returns-clause-begun c = composing.begun_appends_are_cuts c.plans_join.ensures
