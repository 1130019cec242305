use Rattle.std.proofs.Common.{arith}
use Rattle.patch_skyline.proofs.Spans.{trimmed-start, kept-start, begun-start, cut-not-behind, cut-none-behind}
use Rattle.patch_skyline.proofs.skylines.trim_start.Goals as goal

pub returns-then-last-eq0-clause-cut : goal.returns-then-last-eq0-clause-cut
returns-then-last-eq0-clause-cut g c = cut-none-behind c.args.spans.now.items c.args.top.now.stop c.args.last c.requires.last c.if-last-eq0.true

pub returns-then-top-span-clause-beside : goal.returns-then-top-span-clause-beside
returns-then-top-span-clause-beside g c =
    (trimmed-start c.args.spans.now.items c.args.top.now c.index-span.result.now c.args.last c.requires.apart c.if-last-eq0.false (omega arith) c.index-span.ensures c.requires.cut c.requires.last c.requires.some c.if-top-span.true).beside

pub returns-then-top-span-clause-apart : goal.returns-then-top-span-clause-apart
returns-then-top-span-clause-apart g c =
    (trimmed-start c.args.spans.now.items c.args.top.now c.index-span.result.now c.args.last c.requires.apart c.if-last-eq0.false (omega arith) c.index-span.ensures c.requires.cut c.requires.last c.requires.some c.if-top-span.true).apart

pub returns-then-top-span-clause-cut : goal.returns-then-top-span-clause-cut
returns-then-top-span-clause-cut g c =
    (trimmed-start c.args.spans.now.items c.args.top.now c.index-span.result.now c.args.last c.requires.apart c.if-last-eq0.false (omega arith) c.index-span.ensures c.requires.cut c.requires.last c.requires.some c.if-top-span.true).cut

pub returns-then-top-span-clause-kept : goal.returns-then-top-span-clause-kept
returns-then-top-span-clause-kept g c =
    kept-start c.args.spans.now.items c.args.top.now c.index-span.result.now c.args.last c.if-last-eq0.false (omega arith) c.index-span.ensures c.requires.cut c.requires.some

pub returns-then-top-span-clause-low : goal.returns-then-top-span-clause-low
returns-then-top-span-clause-low g c low p =
    begun-start c.args.spans.now.items c.args.top.now c.index-span.result.now c.args.last low c.if-last-eq0.false (omega arith) c.index-span.ensures c.requires.cut c.requires.last c.requires.some c.if-top-span.true p

pub returns-else-top-span-clause-cut : goal.returns-else-top-span-clause-cut
returns-else-top-span-clause-cut g c =
    cut-not-behind c.args.spans.now.items c.args.top.now.stop c.args.last c.index-span.result.now c.requires.apart c.requires.last c.if-last-eq0.false (omega arith) c.index-span.ensures c.if-top-span.false
