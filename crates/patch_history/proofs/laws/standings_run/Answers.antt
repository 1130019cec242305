use Rattle.patch_history.proofs.Extending as extending
use Rattle.patch_history.proofs.laws.standings_run.Goals as goal

pub returns : goal.returns
returns c = extending.standings_run
