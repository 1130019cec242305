use Rattle.patch_model.proofs.Flying as flying
use Rattle.patch_model.proofs.laws.flights_are_ready.Goals as goal

pub returns-clause-sent : goal.returns-clause-sent
returns-clause-sent c = flying.sent_numbers

pub returns-clause-made : goal.returns-clause-made
returns-clause-made c = flying.made_numbers

pub returns-clause-merged : goal.returns-clause-merged
returns-clause-merged c = flying.merged_numbers

pub returns-clause-sent_elsewhere : goal.returns-clause-sent_elsewhere
returns-clause-sent_elsewhere c = flying.sent_elsewhere_numbers

pub returns-clause-landed_elsewhere : goal.returns-clause-landed_elsewhere
returns-clause-landed_elsewhere c = flying.landed_elsewhere_numbers
