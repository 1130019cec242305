use Rattle.patch_model.proofs.Crashes as crashes
use Rattle.patch_model.proofs.Classes as classes
use Rattle.patch_model.proofs.laws.crash_sets_are_closed.Goals as goal

pub returns-clause-closed : goal.returns-clause-closed
returns-clause-closed c = crashes.crash_sets_closed

pub returns-clause-whole : goal.returns-clause-whole
returns-clause-whole c = classes.crash_sets_whole
