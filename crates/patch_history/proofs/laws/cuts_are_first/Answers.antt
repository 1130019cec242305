use Rattle.patch_history.proofs.Cutting as cutting
use Rattle.patch_history.proofs.laws.cuts_are_first.Goals as goal

pub returns : goal.returns
returns c = cutting.cuts_are_first
