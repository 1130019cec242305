use Rattle.patch_replay.proofs.Single as single
use Rattle.patch_replay.proofs.laws.texts_are_single.Goals as goal

pub returns : goal.returns
returns c = single.texts_are_single c.steps_extend.ensures.state c.answers_are_single.ensures
