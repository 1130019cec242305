use Rattle.patch_links.proofs.Withdrawals.{stands-there}
use Rattle.patch_links.proofs.leaving.leave.Goals as goal

pub leave-moved-requires : goal.leave-moved-requires
leave-moved-requires g c = record { within = c.requires.holds.within; some = stands-there _ _ _ _ c.requires.holds c.requires.here }
