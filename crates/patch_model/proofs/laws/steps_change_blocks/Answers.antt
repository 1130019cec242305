use Rattle.patch_model.proofs.Changing as changing
use Rattle.patch_model.proofs.laws.steps_change_blocks.Goals as goal

pub returns-clause-made_here : goal.returns-clause-made_here
returns-clause-made_here c = changing.made_here

pub returns-clause-made_elsewhere : goal.returns-clause-made_elsewhere
returns-clause-made_elsewhere c = changing.made_elsewhere

pub returns-clause-merged : goal.returns-clause-merged
returns-clause-merged c = changing.merged_blocks

pub returns-clause-merged_elsewhere : goal.returns-clause-merged_elsewhere
returns-clause-merged_elsewhere c = changing.merged_elsewhere

pub returns-clause-sent : goal.returns-clause-sent
returns-clause-sent c = changing.sent_blocks

pub returns-clause-sent_elsewhere : goal.returns-clause-sent_elsewhere
returns-clause-sent_elsewhere c = changing.sent_elsewhere

pub returns-clause-landed : goal.returns-clause-landed
returns-clause-landed c = changing.landed_blocks

pub returns-clause-landed_elsewhere : goal.returns-clause-landed_elsewhere
returns-clause-landed_elsewhere c = changing.landed_elsewhere
