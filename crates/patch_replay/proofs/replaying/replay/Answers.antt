use Rattle.patch_replay.proofs.Leading.{starved_at_once}
use Rattle.patch_replay.proofs.Reading.{told_text}
use Rattle.patch_replay.proofs.replaying.replay.Goals as goal

pub returns-in-Err-clause-starved : goal.returns-in-Err-clause-starved
returns-in-Err-clause-starved g c = λ is. starved_at_once _ _ _ _ (told_text c.args.writer.now c.tell.new.writer _ _ _ c.tell.ensures is)
