use Rattle.patch_model.proofs.Marks as marks
use Rattle.patch_model.proofs.laws.marks_are_closed.Goals as goal

pub returns : goal.returns
returns c = marks.marks_closed
