use Rattle.patch_history.proofs.Extended as extended
use Rattle.patch_history.proofs.laws.extents_are_kept.Goals as goal

pub returns : goal.returns
returns c = extended.extents_are_kept c.laws_below.ensures
