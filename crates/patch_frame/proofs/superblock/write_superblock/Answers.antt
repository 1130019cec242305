use Rattle.std.proofs.Common.{◌∙◌, ap, length}
use Rattle.patch_frame.proofs.SuperblockFields.{length-spelling}
use Rattle.patch_frame.proofs.superblock.write_superblock.Goals as goal

pub from_vec-requires : goal.from_vec-requires
from_vec-requires g c = ap length c.in_ok-bytes.ensures ∙ length-spelling c.args.geometry
