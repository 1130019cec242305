use Rattle.patch_model.proofs.Laying as laying
use Rattle.patch_model.proofs.laws.sharing_is_a_common_byte.Goals as goal

pub returns : goal.returns
returns c = λ p q. (laying.shared_place p q, λ h. laying.place_shared p q h.1.0 h.0 h.1.1 h.1.2)
