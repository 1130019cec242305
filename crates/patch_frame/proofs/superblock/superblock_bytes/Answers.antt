use Rattle.std.proofs.Common.{rules}
use Rattle.patch_frame.proofs.superblock.superblock_bytes.Goals as goal

pub returns : goal.returns
returns g c = search rules
