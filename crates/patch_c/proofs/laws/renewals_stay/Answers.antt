use Rattle.patch_c.proofs.Renewed.{renewals_stay}
use Rattle.patch_c.proofs.laws.renewals_stay.Goals as goal

pub returns : goal.returns
returns c = renewals_stay c.clean_blocks_are_held.ensures
