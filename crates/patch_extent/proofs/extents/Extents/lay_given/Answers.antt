use Rattle.std.proofs.Common.{◌≡◌, ◌+◌, ◌-◌, ◌<◌, ◌≤◌, ◌∙◌, [], Ok, ℕ, List, length, get_or, slice_range, refl, sym, ap, subst, arith}
use Rattle.std.proofs.lemmas.List.{get_or_read}
use Rattle.std.proofs.lemmas.Result.{MatchResult-from_err}
use Rattle.patch_frame.specs.Geometry.{first_block}
use Rattle.patch_plans.specs.Extents.{Extents, no_extent, offset_at}
use Rattle.patch_plans.specs.Planning.{part_end, touched}
use Rattle.patch_extent.specs.Answers.{setting, asked, AreMade}
use Rattle.patch_extent.specs.Appending.{LaysParts, parts_of}
use Rattle.patch_extent.proofs.Making.{nothing_made}
use Rattle.patch_extent.proofs.Finishing.{laid_there, part_laid, part_whole, starts_whole}
use Rattle.patch_extent.proofs.extents.Extents.lay_given.Goals as goal

pub returns-then-touched-gt1 : goal.returns-then-touched-gt1
returns-then-touched-gt1 g c =
    subst (λ bs. LaysParts (asked c.args.writer.now c.args.extent bs c.args.names) c.lay_parts.result
    (setting c.args.self.now c.args.groups.now c.args.cache.now) (setting c.args.self.now c.lay_parts.new.groups c.lay_parts.new.cache)) c.as_slice-then-touched-gt1.ensures c.lay_parts.ensures

pub returns-in_err-lay : goal.returns-in_err-lay
returns-in_err-lay g c run h =
    let same = c.in_err-lay.ensures in
    let old = setting c.args.self.now c.args.groups.now c.args.cache.now in
    MatchResult-from_err _ _ _ c.from_residual.ensures.0 (λ _. (
      0,
      omega arith,
      subst (λ gs. AreMade run c.args.writer.now [] [] (setting c.args.self.now c.args.groups.now c.args.cache.now) (setting c.args.self.now gs c.lay.new.cache)) (sym same.0)
          (subst (λ k. AreMade run c.args.writer.now [] [] (setting c.args.self.now c.args.groups.now c.args.cache.now) (setting c.args.self.now c.args.groups.now k)) (sym same.1)
          (nothing_made run c.args.writer.now old h)),
    ))

pub returns : goal.returns
returns g c run h =
    let s = c.args.self.now in
    let e = c.args.extent in
    let counted = subst (λ (s : Extents). length s.each ≡ s.geometry.extents) c.self.view_is c.self.invariant.0.count in
    let inside : c.args.extent < length c.args.self.now.each = omega (arith, counted) in
    let at = get_or_read c.args.self.now.each c.args.extent c.index.result.now inside (c.index.ensures ∙ ap (λ s. get_or s.each c.args.extent c.index.result.now) c.self.view_is) no_extent in
    let offset : c.index.result.now.pointer.offset ≡ offset_at c.args.self.now c.args.extent = ap (λ k. k.pointer.offset) at in
    let count : c.touched.result ≡ touched (offset_at c.args.self.now c.args.extent) (length c.args.bytes) = c.touched.ensures
    ∙ ap (λ k. touched k.pointer.offset (length c.as_slice.result.now)) at ∙ ap (λ (bs : List ℕ). touched (offset_at c.args.self.now c.args.extent) (length bs)) c.as_slice.ensures in
    let one : touched (offset_at c.args.self.now c.args.extent) (length c.args.bytes) ≤ 1 = omega (arith, count) in
    let all : 0 + 1 ≡ touched (offset_at c.args.self.now c.args.extent) (length c.args.bytes) = omega (arith, one) in
    let a = asked c.args.writer.now c.args.extent c.args.bytes c.args.names in
    let old = setting c.args.self.now c.args.groups.now c.args.cache.now in
    subst (λ n. AreMade run c.args.writer.now [] (parts_of (setting c.args.self.now c.args.groups.now c.args.cache.now)
    (asked c.args.writer.now c.args.extent c.args.bytes c.args.names) n) (setting c.args.self.now c.args.groups.now c.args.cache.now)
    (setting c.args.self.now c.lay.new.groups c.lay.new.cache)) all
    (part_laid c.steps_extend.ensures.state run a old c.args.groups.now c.lay.new.groups c.args.cache.now c.lay.new.cache 0 c.in_ok-lay.field-0
    (nothing_made run c.args.writer.now old h)
    (laid_there c.args.self.now.geometry c.args.extent (offset_at c.args.self.now c.args.extent) 0 c.first_block.result c.index.result.now.pointer.offset c.index.result.now.pointer.offset _
    c.args.bytes c.args.bytes c.args.writer.now c.args.names c.args.groups.now c.lay.new.groups c.args.cache.now c.lay.new.cache (Ok c.in_ok-lay.field-0)
    (c.first_block.ensures.value ∙ ap (λ s. first_block s.geometry c.args.extent) c.self.view_is) offset
    (offset ∙ starts_whole (offset_at c.args.self.now c.args.extent)) refl
    (part_whole (offset_at c.args.self.now c.args.extent) c.args.bytes c.requires.some one
    ∙ ap (λ o. slice_range c.args.bytes (o - o) (part_end (offset_at c.args.self.now c.args.extent) (length c.args.bytes) 0 - o)) (sym offset))
    c.in_ok-lay.ensures))
