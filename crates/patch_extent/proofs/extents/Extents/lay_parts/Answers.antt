use Rattle.std.proofs.Common.{◌≡◌, ◌+◌, ◌-◌, ◌<◌, ◌∙◌, [], length, get_or, ap, subst, arith}
use Rattle.std.proofs.lemmas.List.{get_or_read}
use Rattle.patch_recovery.specs.Change.{block_of, start_of, bytes_of}
use Rattle.patch_plans.specs.Extents.{Extents, no_extent, offset_at}
use Rattle.patch_plans.specs.Planning.{part, touched}
use Rattle.patch_extent.specs.Answers.{setting, asked, AreMade}
use Rattle.patch_extent.specs.Appending.{IsPatched, parts_of}
use Rattle.patch_extent.proofs.Making.{nothing_made}
use Rattle.patch_extent.proofs.Finishing.{part_laid}
use Rattle.patch_extent.proofs.extents.Extents.lay_parts.Goals as goal

pub loop-k-init : goal.loop-k-init
loop-k-init g c run h = nothing_made run c.args.writer.now (setting c.args.self.now c.args.groups.now c.args.cache.now) h

pub lay_part-requires-clause-within : goal.lay_part-requires-clause-within
lay_part-requires-clause-within g c =
    let counted = subst (λ (s : Extents). length s.each ≡ s.geometry.extents) c.self.view_is c.self.invariant.0.count in
    let inside : c.args.extent < length c.args.self.now.each = omega (arith, counted) in
    let at = get_or_read c.args.self.now.each c.args.extent c.index.result.now inside (c.index.ensures ∙ ap (λ s. get_or s.each c.args.extent c.index.result.now) c.self.view_is) no_extent in
    let count : c.touched-last.result ≡ touched (offset_at c.args.self.now c.args.extent) (length c.args.bytes.now) = c.touched-last.ensures
    ∙ ap (λ k. touched k.pointer.offset (length c.args.bytes.now)) at in
    omega arith

pub loop-k-preserved : goal.loop-k-preserved
loop-k-preserved g c run h =
    let s = c.args.self.now in
    let e = c.args.extent in
    let k = c.loop-k.k in
    let bytes = c.args.bytes.now in
    part_laid c.steps_extend.ensures.state run (asked c.args.writer.now c.args.extent c.args.bytes.now c.args.names) (setting c.args.self.now c.args.groups.now c.args.cache.now)
    c.loop-k.groups c.lay_part.new.groups c.loop-k.cache c.lay_part.new.cache c.loop-k.k c.in_ok-lay_part.field-0
    (c.loop-k.invariant run h)
    (subst (λ ns. IsPatched (block_of s.geometry (part e (offset_at s e) bytes k)) (start_of (part e (offset_at s e) bytes k)) (bytes_of s.geometry (part e (offset_at s e) bytes k))
    c.args.writer.now ns c.loop-k.groups c.loop-k.cache c.lay_part.new.groups c.lay_part.new.cache c.in_ok-lay_part.field-0) c.in_ok-same.ensures
    c.in_ok-lay_part.ensures)

pub returns : goal.returns
returns g c run h =
    let s = c.args.self.now in
    let counted = subst (λ (s : Extents). length s.each ≡ s.geometry.extents) c.self.view_is c.self.invariant.0.count in
    let inside : c.args.extent < length c.args.self.now.each = omega (arith, counted) in
    let at = get_or_read c.args.self.now.each c.args.extent c.index.result.now inside (c.index.ensures ∙ ap (λ s. get_or s.each c.args.extent c.index.result.now) c.self.view_is) no_extent in
    let count : c.touched-last.result ≡ touched (offset_at c.args.self.now c.args.extent) (length c.args.bytes.now) = c.touched-last.ensures
    ∙ ap (λ k. touched k.pointer.offset (length c.args.bytes.now)) at in
    let all : c.touched-last.result - 1 + 1 ≡ touched (offset_at c.args.self.now c.args.extent) (length c.args.bytes.now) = omega (arith, count) in
    let done : c.loop-k.k ≡ c.touched-last.result - 1 = omega arith in
    let a = asked c.args.writer.now c.args.extent c.args.bytes.now c.args.names in
    let old = setting c.args.self.now c.args.groups.now c.args.cache.now in
    subst (λ n. AreMade run c.args.writer.now [] (parts_of (setting c.args.self.now c.args.groups.now c.args.cache.now)
    (asked c.args.writer.now c.args.extent c.args.bytes.now c.args.names) n) (setting c.args.self.now c.args.groups.now c.args.cache.now)
    (setting c.args.self.now c.lay_part-2.new.groups c.lay_part-2.new.cache)) all
    (part_laid c.steps_extend.ensures.state run a old c.loop-k.groups c.lay_part-2.new.groups c.loop-k.cache c.lay_part-2.new.cache (c.touched-last.result - 1) c.in_ok-lay_part-2.field-0
    (subst (λ n. AreMade run c.args.writer.now [] (parts_of (setting c.args.self.now c.args.groups.now c.args.cache.now)
    (asked c.args.writer.now c.args.extent c.args.bytes.now c.args.names) n) (setting c.args.self.now c.args.groups.now c.args.cache.now)
    (setting c.args.self.now c.loop-k.groups c.loop-k.cache)) done (c.loop-k.invariant run h))
    c.in_ok-lay_part-2.ensures)
