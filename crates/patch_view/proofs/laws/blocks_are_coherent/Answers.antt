use Rattle.patch_view.proofs.Lawful as proofs
use Rattle.patch_view.proofs.laws.blocks_are_coherent.Goals as goal

pub returns : goal.returns
returns c = record { coherent = proofs.orderly_is_coherent; next = proofs.last_is_next }
