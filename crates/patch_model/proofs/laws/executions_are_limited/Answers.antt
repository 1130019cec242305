use Rattle.patch_model.proofs.Sizes as sizes
use Rattle.patch_model.proofs.Sending as sending
use Rattle.patch_model.proofs.laws.executions_are_limited.Goals as goal

pub returns-clause-patches : goal.returns-clause-patches
returns-clause-patches c = λ run legal. (sizes.AreFew-run run legal).made

pub returns-clause-live : goal.returns-clause-live
returns-clause-live c = λ run legal. (sizes.AreFew-run run legal).live

pub returns-clause-blocks : goal.returns-clause-blocks
returns-clause-blocks c = λ run legal. legal.few

pub returns-clause-sends : goal.returns-clause-sends
returns-clause-sends c = sending.few_sends

pub returns-clause-opened : goal.returns-clause-opened
returns-clause-opened c = λ first some few whole. record { some = some; few = few; blocks = whole; steps = tt }
