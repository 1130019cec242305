use Rattle.std.proofs.Common.{sym, ◌∙◌, arith}
use Rattle.patch_links.proofs.Listings.{ready-most, next-left}
use Rattle.patch_links.proofs.Passing.{admitted-more}
use Rattle.patch_links.proofs.admitting.admit_all.Goals as goal

pub loop-block-smaller : goal.loop-block-smaller
loop-block-smaller g c =
    let most = ready-most _ _ _ c.loop-block.invariant.listed in
    let less = next-left _ _ (sym c.has_next.ensures ∙ c.loop-block-test.true) c.loop-block.invariant.listed.within in
    let done = c.admit_next.ensures.done in
    let count = c.admit_next.ensures.count in
    omega arith

pub loop-block-preserved : goal.loop-block-preserved
loop-block-preserved g c = admitted-more _ _ _ _ _ _ _ c.loop-block.invariant c.admit_next.ensures.listed c.admit_next.ensures.rest c.admit_next.ensures.owed
