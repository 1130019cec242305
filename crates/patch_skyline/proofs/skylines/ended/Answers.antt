use Rattle.std.proofs.Common.{◌≡◌, ◌-◌, ◌<◌, ◌≤◌, length, subst, arith}
use Rattle.std.specs.Prelude.{slice_index_or}
use Rattle.patch_skyline.specs.declared.skylines.Span.{Span}
use Rattle.patch_skyline.proofs.Spans.{ended-all, ended-last}
use Rattle.patch_skyline.proofs.skylines.ended.Goals as goal

pub returns-then-last-at-clause-place : goal.returns-then-last-at-clause-place
returns-then-last-at-clause-place c =
    let ss = c.args.spans.now in
    let at = c.args.at in
    ended-all ss at c.requires (λ n e d.
    let last : length ss - 1 ≡ n = omega (arith, e) in
    subst (λ m. (slice_index_or ss m d).stop ≤ at) last (subst (λ (s : Span). s.stop ≤ at) (c.in-Some.ensures.item.3.1 d) c.if-last-at.true))

pub returns-then-last-at-2-clause-place : goal.returns-then-last-at-2-clause-place
returns-then-last-at-2-clause-place c =
    ended-last c.args.spans.now c.args.at c.requires (let some = c.in-Some.ensures.item.3.0 in omega (arith, some)) (λ d. (
      subst (λ (s : Span). s.start ≤ c.args.at) (c.in-Some.ensures.item.3.1 d) c.if-last-at-2.true,
      subst (λ (s : Span). c.args.at < s.stop) (c.in-Some.ensures.item.3.1 d) (omega arith),
    ))
