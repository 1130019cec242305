use Rattle.patch_history.proofs.Extending as extending
use Rattle.patch_history.proofs.laws.histories_extend.Goals as goal

pub returns : goal.returns
returns c = extending.IsLegalHistory-push
