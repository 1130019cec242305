use Rattle.patch_replay.specs.Growing.{same}
use Rattle.patch_replay.proofs.Leading.{none_begun}
use Rattle.patch_replay.proofs.replaying.write_bad_line.Goals as goal

pub returns-in-Err-clause-stopped : goal.returns-in-Err-clause-stopped
returns-in-Err-clause-stopped g c = λ w. none_begun w _ _ _ _ (same _)
