use Rattle.std.proofs.Common.{◌∙◌, ap, sym}
use Rattle.patch_frame.specs.Superblock.{superblock_at}
use Rattle.patch_disks.proofs.Surveyed.{under_none}
use Rattle.patch_disks.proofs.surveying.key_at.Goals as goal

pub returns-in_default : goal.returns-in_default
returns-in_default c =
    under_none (superblock_at c.args.first.now) c.in_default.field-0 c.args.start c.args.block.now
    (ap superblock_at (sym c.as_slice.ensures.bytes) ∙ sym c.in_default.ensures.exact)
