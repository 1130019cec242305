use Rattle.patch_history.proofs.Bridging as bridging
use Rattle.patch_history.proofs.Extended as extended
use Rattle.patch_history.proofs.laws.histories_are_of_stores.Goals as goal

pub returns-clause-stores : goal.returns-clause-stores
returns-clause-stores c = bridging.histories_are_of_stores c.laws_below.ensures

pub returns-clause-maps : goal.returns-clause-maps
returns-clause-maps c = bridging.maps_are_said c.laws_below.ensures

pub returns-clause-read : goal.returns-clause-read
returns-clause-read c = extended.histories_are_read c.laws_below.ensures

pub returns-clause-agree : goal.returns-clause-agree
returns-clause-agree c = bridging.standings_agree c.laws_below.ensures
