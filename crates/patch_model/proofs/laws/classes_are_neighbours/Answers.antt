use Rattle.patch_model.proofs.Rings as rings
use Rattle.patch_model.proofs.laws.classes_are_neighbours.Goals as goal

pub returns-clause-neighbours : goal.returns-clause-neighbours
returns-clause-neighbours c = rings.classes_neighbours

pub returns-clause-over : goal.returns-clause-over
returns-clause-over c = rings.classes_under

pub returns-clause-marks : goal.returns-clause-marks
returns-clause-marks c = rings.marks_at_byte
