use Rattle.patch_history.proofs.Keeping as keeping
use Rattle.patch_history.proofs.laws.newest_are_kept.Goals as goal

pub returns : goal.returns
returns c = keeping.newest_are_kept
