use Rattle.patch_model.proofs.HeldDependents as holding
use Rattle.patch_model.proofs.laws.holding_is_tested.Goals as goal

pub returns : goal.returns
returns c = λ h names. (holding.holding-from_test h names, holding.test-from_holding h names)
