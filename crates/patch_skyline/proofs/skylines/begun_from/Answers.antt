use Rattle.patch_skyline.proofs.Spans.{begun-until}
use Rattle.patch_skyline.proofs.skylines.begun_from.Goals as goal

pub returns-else-spans-last-clause-place : goal.returns-else-spans-last-clause-place
returns-else-spans-last-clause-place c =
    begun-until c.args.spans.now c.args.at c.loop-last.last c.index-spans-last.result c.requires.apart c.loop-last.invariant.begun c.loop-last-test.true c.if-spans-last.false
