use Rattle.std.proofs.Common.{◌++◌, string_bytes}
use Rattle.hex.specs.Hex.{encode_lower}
use Rattle.patch_script.proofs.Blocks.{block_step}
use Rattle.patch_script.proofs.digits.push_digits.Goals as goal

pub loop-block-preserved : goal.loop-block-preserved
loop-block-preserved c =
    let parts = c.in-Some.ensures.cases in
    block_step (string_bytes c.loop-block.out) (string_bytes c.push_block.new.out) c.loop-block.rest.now c.in-Some.block.now c.in-Some.more.now
    (string_bytes c.args.out.now ++ encode_lower c.args.bytes.now) 64 c.in_ok-push_block.ensures parts.0 parts.1 c.loop-block.invariant
