use Rattle.std.proofs.Common.{rules}
use Rattle.patch_frame.proofs.slots.used_bytes.Goals as goal

pub returns : goal.returns
returns g c = search rules
