use Rattle.std.proofs.Common.{◌≡◌, map}
use Rattle.std.specs.List.{range_with_len}
use Rattle.patch_c.specs.Opening.{block_in}
use Rattle.patch_c.proofs.file_blocks.blocks_in.Given as goal

-- the blocks so far
abbrev pub invariant-loop-n : goal.invariant-loop-n
invariant-loop-n l = l.blocks.items ≡ map (block_in l.bytes) (range_with_len 0 l.n)
