use Rattle.patch_history.proofs.Shelving as shelving
use Rattle.patch_history.proofs.laws.shelves_are_kept.Goals as goal

pub returns : goal.returns
returns c = shelving.shelves_are_kept
