use Rattle.patch_model.proofs.Numbering as numbering
use Rattle.patch_model.proofs.Extending as extending
use Rattle.patch_model.proofs.laws.steps_extend.Goals as goal

pub returns-clause-state : goal.returns-clause-state
returns-clause-state c = numbering.state_of-extended

pub returns-clause-legal : goal.returns-clause-legal
returns-clause-legal c = extending.IsLegal-extended
