use Rattle.std.proofs.Common.{refl}
use Rattle.patch_recovery.proofs.Growing as growing
use Rattle.patch_recovery.proofs.laws.stores_grow.Goals as goal

pub returns-clause-begin : goal.returns-clause-begin
returns-clause-begin c blocks first long read = record { blocks = long; read = read; patches = refl; well_made = tt }

pub returns-clause-grow : goal.returns-clause-grow
returns-clause-grow c = growing.grows c.steps_extend.ensures.state

pub returns-clause-others : goal.returns-clause-others
returns-clause-others c = growing.others_leave c.steps_extend.ensures.state
