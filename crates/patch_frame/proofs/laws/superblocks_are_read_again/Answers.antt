use Rattle.std.proofs.Common.{refl}
use Rattle.patch_frame.specs.Superblock.{spelling}
use Rattle.patch_frame.proofs.SuperblockFields.{superblock_again, length-spelling}
use Rattle.patch_frame.proofs.laws.superblocks_are_read_again.Goals as goal

pub returns-clause-read : goal.returns-clause-read
returns-clause-read c = λ g is. superblock_again (spelling g) g is refl

pub returns-clause-length : goal.returns-clause-length
returns-clause-length c = λ g. length-spelling g
