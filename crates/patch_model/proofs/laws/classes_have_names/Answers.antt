use Rattle.patch_model.proofs.Naming as naming
use Rattle.patch_model.proofs.laws.classes_have_names.Goals as goal

pub returns-clause-rising : goal.returns-clause-rising
returns-clause-rising c = naming.ready_numbers_rise

pub returns-clause-ready : goal.returns-clause-ready
returns-clause-ready c = naming.ready_names
