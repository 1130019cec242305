use Rattle.std.proofs.Common.{◌<◌, subst, sym, arith}
use Rattle.patch_skyline.specs.declared.skylines.Span.{Span}
use Rattle.patch_skyline.proofs.Spans.{split-at-place}
use Rattle.patch_skyline.proofs.skylines.split.Goals as goal

pub returns-clause-laid : goal.returns-clause-laid
returns-clause-laid g c =
    let low = subst (λ (s : Span). s.start < c.args.top.start) (sym c.index-span.ensures) (c.requires.start c.index-span.result.now) in
    let high = subst (λ (s : Span). c.args.top.stop < s.stop) (sym c.index-span.ensures) (c.requires.stop c.index-span.result.now) in
    (split-at-place c.args.spans.now.items c.put_at-2.new.spans.items c.args.top c.index-span.result.now c.args.place c.requires.apart (omega arith) c.index-span.ensures low c.requires.some high (rw c.put_at.ensures.items at c.put_at-2.ensures.items)).laid

pub returns-clause-apart : goal.returns-clause-apart
returns-clause-apart g c =
    let low = subst (λ (s : Span). s.start < c.args.top.start) (sym c.index-span.ensures) (c.requires.start c.index-span.result.now) in
    let high = subst (λ (s : Span). c.args.top.stop < s.stop) (sym c.index-span.ensures) (c.requires.stop c.index-span.result.now) in
    (split-at-place c.args.spans.now.items c.put_at-2.new.spans.items c.args.top c.index-span.result.now c.args.place c.requires.apart (omega arith) c.index-span.ensures low c.requires.some high (rw c.put_at.ensures.items at c.put_at-2.ensures.items)).apart
