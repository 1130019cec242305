use Rattle.std.proofs.Common.{arith}
use Rattle.patch_links.proofs.Withdrawals.{each-none, each-more, holds-popped, fewer-left}
use Rattle.patch_links.proofs.leaving.pull_each.Goals as goal

pub loop-key-init : goal.loop-key-init
loop-key-init g c = each-none _ _ _ _ c.requires

pub pull_all-requires : goal.pull_all-requires
pull_all-requires g c = holds-popped _ _ _ _ _ c.loop-key.invariant.holds c.in-Some.ensures.some

pub loop-key-smaller : goal.loop-key-smaller
loop-key-smaller g c =
    let less = fewer-left _ _ _ c.in-Some.ensures.some in
    let long = c.pull_all.ensures.long in omega arith

pub loop-key-preserved : goal.loop-key-preserved
loop-key-preserved g c = each-more _ _ _ _ _ _ _ _ _ _ c.loop-key.invariant c.in-Some.ensures.some c.pull_all.ensures.holds c.pull_all.ensures.rest c.pull_all.ensures.fewer c.pull_all.ensures.leaving
