use Rattle.std.proofs.Common.{◌<◌, ◌≤◌, subst, sym, arith}
use Rattle.patch_skyline.specs.declared.skylines.Span.{Span}
use Rattle.patch_skyline.proofs.Spans.{stop-trimmed, stop-begun, begun-ended, cut-ended}
use Rattle.patch_skyline.proofs.skylines.trim_stop.Goals as goal

pub returns-then-span-top-clause-beside : goal.returns-then-span-top-clause-beside
returns-then-span-top-clause-beside g c =
    let within = subst (λ (s : Span). s.start < c.args.top.now.start → s.stop ≤ c.args.top.now.stop) (sym c.index-span.ensures) (c.requires.stop c.index-span.result.now) c.if-span-top.true in
    (stop-trimmed c.args.spans.now.items c.args.top.now c.index-span.result.now c.args.first c.requires.apart (omega arith) c.index-span.ensures c.requires.first c.if-span-top.true within).beside

pub returns-then-span-top-clause-apart : goal.returns-then-span-top-clause-apart
returns-then-span-top-clause-apart g c =
    let within = subst (λ (s : Span). s.start < c.args.top.now.start → s.stop ≤ c.args.top.now.stop) (sym c.index-span.ensures) (c.requires.stop c.index-span.result.now) c.if-span-top.true in
    (stop-trimmed c.args.spans.now.items c.args.top.now c.index-span.result.now c.args.first c.requires.apart (omega arith) c.index-span.ensures c.requires.first c.if-span-top.true within).apart

pub returns-then-span-top-clause-cut : goal.returns-then-span-top-clause-cut
returns-then-span-top-clause-cut g c =
    let within = subst (λ (s : Span). s.start < c.args.top.now.start → s.stop ≤ c.args.top.now.stop) (sym c.index-span.ensures) (c.requires.stop c.index-span.result.now) c.if-span-top.true in
    (stop-trimmed c.args.spans.now.items c.args.top.now c.index-span.result.now c.args.first c.requires.apart (omega arith) c.index-span.ensures c.requires.first c.if-span-top.true within).cut

pub returns-then-span-top-clause-place : goal.returns-then-span-top-clause-place
returns-then-span-top-clause-place g c =
    stop-begun c.args.spans.now.items c.args.top.now c.index-span.result.now c.args.first c.requires.apart (omega arith) c.index-span.ensures c.requires.first c.if-span-top.true

pub returns-else-span-top-clause-place : goal.returns-else-span-top-clause-place
returns-else-span-top-clause-place g c =
    begun-ended c.args.spans.now.items c.args.top.now c.index-span.result.now c.args.first c.requires.apart (omega arith) c.index-span.ensures c.requires.first c.if-span-top.false

pub returns-else-span-top-clause-cut : goal.returns-else-span-top-clause-cut
returns-else-span-top-clause-cut g c =
    cut-ended c.args.spans.now.items c.args.top.now c.args.first c.requires.first
    (begun-ended c.args.spans.now.items c.args.top.now c.index-span.result.now c.args.first c.requires.apart (omega arith) c.index-span.ensures c.requires.first c.if-span-top.false)
