use Rattle.patch_room.proofs.Emptying.{reclaims_empty, puts_keep}
use Rattle.patch_room.proofs.laws.empties_are_kept.Goals as goal

pub returns-clause-reclaims : goal.returns-clause-reclaims
returns-clause-reclaims c = reclaims_empty c.laws_below.ensures

pub returns-clause-puts : goal.returns-clause-puts
returns-clause-puts c = puts_keep c.laws_below.ensures
