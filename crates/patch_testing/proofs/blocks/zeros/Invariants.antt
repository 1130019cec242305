use Rattle.std.proofs.Common.{◌≡◌, replicate}
use Rattle.patch_testing.proofs.blocks.zeros.Given as goal

-- so many blocks of zeros so far
abbrev pub invariant-loop : goal.invariant-loop
invariant-loop g l = l.blocks.items ≡ replicate l.counter (replicate 4096 0)
