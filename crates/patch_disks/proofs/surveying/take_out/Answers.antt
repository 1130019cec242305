use Rattle.std.proofs.Common.{◌∙◌, ap}
use Rattle.patch_disks.specs.Surveying.{key_named}
use Rattle.patch_disks.proofs.Surveyed.{bad_so}
use Rattle.patch_disks.proofs.surveying.take_out.Goals as goal

pub returns : goal.returns
returns c tells =
    let key = c.in_ok-key.ensures ∙ ap (λ x. key_named x c.in-Some.slot) c.as_slice.ensures.value in
    (c.in-Some.slot, bad_so c.args.blocks.now.items c.in-Some.slot _ tells c.in-Some.ensures key, c.clear.ensures)
