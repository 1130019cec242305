use Rattle.std.proofs.Common.{sym, arith, ◌∙◌}
use Rattle.patch_links.proofs.Places.{same_default}
use Rattle.patch_links.proofs.Rooms.{gone-more}
use Rattle.patch_links.proofs.adding.count_gone.Goals as goal

pub loop-at-preserved : goal.loop-at-preserved
loop-at-preserved g c =
    let low = c.if-no-lowest.false in
    let is = c.no.view_is in
    gone-more c.args.keys.now.numbers c.args.numbers.now c.loop-at.at c.index-numbers-at.result c.loop-at.invariant (omega arith)
    (sym (c.index-numbers-at.is ∙ same_default c.args.numbers.now c.loop-at.at c.index-numbers-at.result 0 (omega arith))) (c.lowest-lowest.ensures c.index-numbers-at.result (omega (arith, low, is)))
