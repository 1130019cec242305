use Rattle.patch_model.proofs.Marks as marks
use Rattle.patch_model.proofs.laws.patches_are_placed.Goals as goal

pub returns-clause-known : goal.returns-clause-known
returns-clause-known c = marks.patches_known

pub returns-clause-flying : goal.returns-clause-flying
returns-clause-flying c = marks.patches_flying
