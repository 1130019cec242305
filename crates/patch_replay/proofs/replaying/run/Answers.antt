use Rattle.patch_replay.specs.Growing.{same}
use Rattle.patch_replay.proofs.Leading.{none_begun}
use Rattle.patch_replay.proofs.replaying.run.Goals as goal

pub returns-clause-stopped : goal.returns-clause-stopped
returns-clause-stopped g c = λ w at script is. none_begun w _ _ _ _ (same _)
