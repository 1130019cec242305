use Rattle.std.proofs.Common.{subst, sym, List, arith}
use Rattle.patch_skyline.specs.declared.skylines.Span.{Span}
use Rattle.patch_skyline.specs.Skyline.{AreApart, IsLaid}
use Rattle.patch_skyline.proofs.Spans.{in-order, covers-none, covers-one, covers-many}
use Rattle.patch_skyline.proofs.skylines.cover.Goals as goal

pub returns-then-low-high-clause-laid : goal.returns-then-low-high-clause-laid
returns-then-low-high-clause-laid g c =
    subst (λ (z : List Span). IsLaid c.args.spans.now.items z c.args.top) (sym c.put_at.ensures.items) (covers-none c.args.spans.now.items c.args.top c.args.low c.args.high c.requires.apart c.requires.cut_start c.requires.cut_stop c.requires.some c.requires.low c.requires.high c.if-low-high.true).laid

pub returns-then-low-high-2-clause-laid : goal.returns-then-low-high-2-clause-laid
returns-then-low-high-2-clause-laid g c =
    subst (λ (z : List Span). IsLaid c.args.spans.now.items z c.args.top) (sym c.take_out.ensures)
    (covers-many c.args.spans.now.items c.args.top c.args.low c.args.high c.requires.apart c.requires.cut_start c.requires.cut_stop c.requires.some c.requires.low c.requires.high (omega arith) c.if-low-high-2.true).laid

pub returns-else-low-high-2-clause-laid : goal.returns-else-low-high-2-clause-laid
returns-else-low-high-2-clause-laid g c =
    let order = in-order c.args.spans.now.items c.args.top.start c.args.top.stop c.args.low c.args.high c.requires.some (omega arith) c.requires.low c.requires.high in
    (covers-one c.args.spans.now.items c.args.top c.args.low c.args.high c.requires.apart c.requires.cut_start c.requires.cut_stop c.requires.some c.requires.low c.requires.high (omega arith) (omega arith)).laid

pub returns-then-low-high-clause-apart : goal.returns-then-low-high-clause-apart
returns-then-low-high-clause-apart g c =
    subst (λ (z : List Span). AreApart z) (sym c.put_at.ensures.items) (covers-none c.args.spans.now.items c.args.top c.args.low c.args.high c.requires.apart c.requires.cut_start c.requires.cut_stop c.requires.some c.requires.low c.requires.high c.if-low-high.true).apart

pub returns-then-low-high-2-clause-apart : goal.returns-then-low-high-2-clause-apart
returns-then-low-high-2-clause-apart g c =
    subst (λ (z : List Span). AreApart z) (sym c.take_out.ensures)
    (covers-many c.args.spans.now.items c.args.top c.args.low c.args.high c.requires.apart c.requires.cut_start c.requires.cut_stop c.requires.some c.requires.low c.requires.high (omega arith) c.if-low-high-2.true).apart

pub returns-else-low-high-2-clause-apart : goal.returns-else-low-high-2-clause-apart
returns-else-low-high-2-clause-apart g c =
    let order = in-order c.args.spans.now.items c.args.top.start c.args.top.stop c.args.low c.args.high c.requires.some (omega arith) c.requires.low c.requires.high in
    (covers-one c.args.spans.now.items c.args.top c.args.low c.args.high c.requires.apart c.requires.cut_start c.requires.cut_stop c.requires.some c.requires.low c.requires.high (omega arith) (omega arith)).apart
