use Rattle.patch_view.proofs.Accepting as proofs
use Rattle.patch_view.proofs.Causes.{class_is}
use Rattle.patch_view.proofs.laws.refusals_have_causes.Goals as goal

pub returns : goal.returns
returns c = record { take = proofs.taken_without_cause; put_back = proofs.put_back_without_cause; class = class_is }
