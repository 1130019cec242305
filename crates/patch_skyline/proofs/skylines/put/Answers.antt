use Rattle.std.proofs.Common.{◌≡◌, ◌≤◌, ◌∙◌, ℕ, subst, sym, ap, List, length, arith}
use Rattle.std.specs.List.{insert}
use Rattle.std.proofs.lemmas.List.{get_or_default}
use Rattle.std.proofs.lemmas.List.Edits.{insert_end}
use Rattle.patch_skyline.specs.declared.skylines.Span.{Span}
use Rattle.patch_skyline.specs.Skyline.{AreApart, IsLaid}
use Rattle.patch_skyline.proofs.Spans.{Ended, IsCovered, laid-free, laid-same}
use Rattle.patch_skyline.proofs.skylines.put.Given
use Rattle.patch_skyline.proofs.skylines.put.Goals as goal

pub cover-requires-clause-low : goal.cover-requires-clause-low
cover-requires-clause-low g c = c.trim_start-high.ensures.low c.trim_stop-low.result c.trim_stop-low.ensures.place

-- behind all others
last : (g : Given.Over) (c : goal.After-push_reserved g) → IsCovered c.args.spans.now.items c.push_reserved.new.self.items c.args.top
last g c =
    let ss = c.args.spans.now.items in
    let first = subst (λ (z : List Span). Ended z c.args.top.start c.ended-first.result) c.as_slice.ensures.value c.ended-first.ensures.place in
    let end : c.ended-first.result ≡ length ss = omega arith in
    subst (λ (z : List Span). IsCovered ss z c.args.top) (ap (λ (n : ℕ). insert ss n c.args.top) end ∙ insert_end ss c.args.top ∙ sym c.push_reserved.ensures.items)
    (laid-free ss c.args.top c.ended-first.result c.requires.apart c.requires.some first (λ d h. absurd (omega (arith, h))))

pub returns-then-first-len-clause-laid : goal.returns-then-first-len-clause-laid
returns-then-first-len-clause-laid g c = (last g c).laid

pub returns-then-first-len-clause-apart : goal.returns-then-first-len-clause-apart
returns-then-first-len-clause-apart g c = (last g c).apart

-- before the one that ends behind its first byte
before : (g : Given.Over) (c : goal.After-put_at g) → IsCovered c.args.spans.now.items (insert c.args.spans.now.items c.ended-first.result c.args.top) c.args.top
before g c =
    let ss = c.args.spans.now.items in
    let first = subst (λ (z : List Span). Ended z c.args.top.start c.ended-first.result) c.as_slice.ensures.value c.ended-first.ensures.place in
    laid-free ss c.args.top c.ended-first.result c.requires.apart c.requires.some first
    (λ d h. subst (λ (s : Span). c.args.top.stop ≤ s.start) (c.index-span.ensures ∙ get_or_default ss c.ended-first.result c.index-span.result.now d h) c.if-top-span.true)

pub returns-then-top-span-clause-laid : goal.returns-then-top-span-clause-laid
returns-then-top-span-clause-laid g c =
    subst (λ (z : List Span). IsLaid c.args.spans.now.items z c.args.top) (sym c.put_at.ensures.items) (before g c).laid

pub returns-then-top-span-clause-apart : goal.returns-then-top-span-clause-apart
returns-then-top-span-clause-apart g c = subst AreApart (sym c.put_at.ensures.items) (before g c).apart

pub returns-then-span-top-2-clause-laid : goal.returns-then-span-top-2-clause-laid
returns-then-span-top-2-clause-laid g c =
    let ss = c.args.spans.now.items in
    let first = subst (λ (z : List Span). Ended z c.args.top.start c.ended-first.result) c.as_slice.ensures.value c.ended-first.ensures.place in
    (laid-same ss c.args.top c.index-span.result.now c.ended-first.result c.requires.apart c.requires.some first (omega arith) (sym c.index-span.ensures) c.if-span-top.true c.if-span-top-2.true).laid

pub returns-then-span-top-2-clause-apart : goal.returns-then-span-top-2-clause-apart
returns-then-span-top-2-clause-apart g c =
    let ss = c.args.spans.now.items in
    let first = subst (λ (z : List Span). Ended z c.args.top.start c.ended-first.result) c.as_slice.ensures.value c.ended-first.ensures.place in
    (laid-same ss c.args.top c.index-span.result.now c.ended-first.result c.requires.apart c.requires.some first (omega arith) (sym c.index-span.ensures) c.if-span-top.true c.if-span-top-2.true).apart
