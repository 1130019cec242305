use Rattle.std.proofs.Common.{◌≡◌, ◌∷◌, replicate}
use Rattle.patch_frame.specs.Superblock.{spelling}
use Rattle.patch_store.proofs.making.new_blocks.Given as goal

-- the superblock and so many blocks of zeros
abbrev pub invariant-loop : goal.invariant-loop
invariant-loop g l = l.blocks.items ≡ spelling l.fn.geometry ∷ replicate l.counter (replicate 4096 0)
