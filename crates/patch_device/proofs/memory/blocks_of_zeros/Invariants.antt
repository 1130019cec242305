use Rattle.std.proofs.Common.{◌≡◌}
use Rattle.patch_device.specs.Blocks.{zeros}
use Rattle.patch_device.proofs.memory.blocks_of_zeros.Given as goal

-- so many blocks of zeros so far
abbrev pub invariant-loop : goal.invariant-loop
invariant-loop g l = l.blocks.items ≡ zeros l.counter
