use Rattle.patch_recovery.proofs.Lasting as lasting
use Rattle.patch_recovery.proofs.laws.ledgers_last.Goals as goal

pub returns : goal.returns
returns c = lasting.ledgers_last
