use Rattle.patch_replay.proofs.Leading.{stopped_unread}
use Rattle.patch_replay.proofs.replaying.read_and_run.Goals as goal

pub returns-in_err-script-clause-stopped : goal.returns-in_err-script-clause-stopped
returns-in_err-script-clause-stopped g c = λ w at. stopped_unread _ _ w _
