use Rattle.patch_model.proofs.Laying as laying
use Rattle.patch_model.proofs.laws.rearranged_alike.Goals as goal

pub returns : goal.returns
returns c = laying.rearranged_alike
