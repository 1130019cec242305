use Rattle.std.proofs.Common.{◌≡◌, length}
use Rattle.patch_device.specs.Blocks.{AreWhole}
use Rattle.patch_device.proofs.files.read_blocks.Given as goal

-- the blocks so far are whole
abbrev pub invariant-loop-n : goal.invariant-loop-n
invariant-loop-n g l = record { count : length l.blocks.items ≡ l.n; whole : AreWhole l.blocks.items }
