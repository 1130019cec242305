use Rattle.std.proofs.Common.{◌≡◌, ◌<◌, ◌∙◌, length, get_or, ap, subst, arith}
use Rattle.std.proofs.lemmas.List.{get_or_read}
use Rattle.patch_frame.specs.Geometry.{first_block}
use Rattle.patch_plans.specs.Extents.{Extents, no_extent, offset_at}
use Rattle.patch_plans.specs.Planning.{part_start, part_end}
use Rattle.patch_extent.proofs.Finishing.{laid_there}
use Rattle.patch_extent.proofs.extents.Extents.lay_part.Goals as goal

pub returns : goal.returns
returns g c =
    let counted = subst (λ (s : Extents). length s.each ≡ s.geometry.extents) c.self.view_is c.self.invariant.0.count in
    let inside : c.args.extent < length c.args.self.now.each = omega (arith, counted) in
    let at = get_or_read c.args.self.now.each c.args.extent c.index.result.now inside (c.index.ensures ∙ ap (λ s. get_or s.each c.args.extent c.index.result.now) c.self.view_is) no_extent in
    let offset : c.index.result.now.pointer.offset ≡ offset_at c.args.self.now c.args.extent = ap (λ k. k.pointer.offset) at in
    laid_there c.args.self.now.geometry c.args.extent (offset_at c.args.self.now c.args.extent) c.args.k c.first_block.result c.index.result.now.pointer.offset c.part_start-start.result
    c.part_end-end.result c.args.bytes.now c.in_ok-part.part c.args.writer.now c.args.names c.args.groups.now c.lay.new.groups c.args.cache.now c.lay.new.cache c.lay.result
    (c.first_block.ensures.value ∙ ap (λ s. first_block s.geometry c.args.extent) c.self.view_is) offset
    (c.part_start-start.ensures ∙ ap (λ o. part_start o c.args.k) offset)
    (c.part_end-end.ensures ∙ ap (λ o. part_end o (length c.args.bytes.now) c.args.k) offset)
    c.in_ok-part.ensures c.lay.ensures
