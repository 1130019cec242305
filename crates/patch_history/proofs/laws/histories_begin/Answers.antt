use Rattle.patch_history.proofs.Beginning as beginning
use Rattle.patch_history.proofs.laws.histories_begin.Goals as goal

pub returns : goal.returns
returns c = beginning.histories_begin
