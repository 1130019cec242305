use Rattle.patch_recovery.proofs.Lasting as lasting
use Rattle.patch_recovery.proofs.laws.read_blocks_are_sound.Goals as goal

pub returns : goal.returns
returns c = lasting.read_blocks_are_sound
