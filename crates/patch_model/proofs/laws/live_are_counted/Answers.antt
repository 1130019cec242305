use Rattle.patch_model.proofs.Flying as flying
use Rattle.patch_model.proofs.laws.live_are_counted.Goals as goal

pub returns-clause-made : goal.returns-clause-made
returns-clause-made c = flying.made_count

pub returns-clause-merged : goal.returns-clause-merged
returns-clause-merged c = flying.merged_count

pub returns-clause-sent : goal.returns-clause-sent
returns-clause-sent c = flying.sent_count

pub returns-clause-landed : goal.returns-clause-landed
returns-clause-landed c = flying.landed_count
