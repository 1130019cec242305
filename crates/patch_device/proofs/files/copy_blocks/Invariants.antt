use Rattle.std.proofs.Common.{◌≡◌, take}
use Rattle.patch_device.proofs.files.copy_blocks.Given as goal

-- the blocks so far are copied
abbrev pub invariant-loop-block : goal.invariant-loop-block
invariant-loop-block l = l.copied.items ≡ take l.block-index l.blocks
