use Rattle.std.proofs.Common.{◌≡◌, ◌-◌, ◌<◌, length, subst, arith}
use Rattle.std.specs.Prelude.{slice_index_or}
use Rattle.patch_skyline.specs.declared.skylines.Span.{Span}
use Rattle.patch_skyline.proofs.Spans.{begun-all}
use Rattle.patch_skyline.proofs.skylines.begun.Goals as goal

pub returns-then-last-at-clause-place : goal.returns-then-last-at-clause-place
returns-then-last-at-clause-place c =
    let ss = c.args.spans.now in
    let at = c.args.at in
    begun-all ss at c.requires (λ n e d.
    let last : length ss - 1 ≡ n = omega (arith, e) in
    subst (λ m. (slice_index_or ss m d).start < at) last (subst (λ (s : Span). s.start < at) (c.in-Some.ensures.item.3.1 d) c.if-last-at.true))
