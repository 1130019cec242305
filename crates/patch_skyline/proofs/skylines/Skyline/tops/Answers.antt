use Rattle.std.proofs.Common.{◌∙◌, ap, subst, sym, List, []}
use Rattle.std.specs.List.{slice_range}
use Rattle.patch_skyline.specs.declared.skylines.Span.{Span}
use Rattle.patch_skyline.specs.Skyline.{Skyline, AreTops, AreApart}
use Rattle.patch_skyline.proofs.Spans.{tops-some, tops-none}
use Rattle.patch_skyline.proofs.skylines.Skyline.tops.Goals as goal

pub returns-then-first-last : goal.returns-then-first-last
returns-then-first-last g c =
    let same = c.as_slice-spans.ensures.value ∙ ap (λ (z : Skyline). z.spans) c.self.view_is in
    subst (λ (z : List Span). AreTops z c.args.start c.args.stop (slice_range c.as_slice-spans.result.now c.ended-first.result c.begun-last.result)) same
    (tops-some c.as_slice-spans.result.now c.args.start c.args.stop c.ended-first.result c.begun-last.result (subst AreApart (sym c.as_slice-spans.ensures.value) c.self.invariant) c.requires
    c.ended-first.ensures.place c.begun-last.ensures.place c.if-first-last.true)

pub returns-else-first-last : goal.returns-else-first-last
returns-else-first-last g c =
    let same = c.as_slice-spans.ensures.value ∙ ap (λ (z : Skyline). z.spans) c.self.view_is in
    subst (λ (z : List Span). AreTops z c.args.start c.args.stop []) same
    (tops-none c.as_slice-spans.result.now c.args.start c.args.stop c.ended-first.result c.begun-last.result c.ended-first.ensures.place c.begun-last.ensures.place c.if-first-last.false)
