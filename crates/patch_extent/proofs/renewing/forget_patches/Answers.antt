use Rattle.std.proofs.Common.{get_or, ap}
use Rattle.std.proofs.lemmas.List.Edits.{map_over_more}
use Rattle.patch_extent.specs.Renewing.{unpatched_extent}
use Rattle.patch_extent.proofs.renewing.forget_patches.Goals as goal

pub loop-extent-preserved : goal.loop-extent-preserved
loop-extent-preserved c =
    let each = c.loop-extent.each in
    let at = c.loop-extent.extent-index in
    map_over_more unpatched_extent c.args.each.now each at (get_or each at c.extent-item.result) c.loop-extent-test.true c.loop-extent.invariant
    (ap (get_or each at) c.extent-item.is)
