use Rattle.std.proofs.Common.{◌+◌, ◌/◌, ◌<◌, ◌≤◌, ◌∙◌, ◌++◌, length, ap, subst, arith}
use Rattle.patch_frame.specs.Geometry.{first_block, extent_blocks, block_count}
use Rattle.patch_plans.specs.Planning.{touched, part_start}
use Rattle.patch_extent.proofs.Patches.{cached_long}
use Rattle.patch_extent.proofs.Spans.{span_more, is_touched, block_there}
use Rattle.patch_extent.proofs.extents.Extents.read_span.Goals as goal

pub loop-k-preserved : goal.loop-k-preserved
loop-k-preserved g c run cache represents =
    let some : 0 < c.args.place.len = omega arith in
    let less : c.loop-k.k < touched c.args.place.offset c.args.place.len = omega (arith, c.touched-k-end.ensures) in
    let t = is_touched c.args.place.offset c.args.place.len c.loop-k.k some less in
    let value = c.first_block-first.ensures.value ∙ ap (λ s. first_block s.geometry c.args.place.extent) c.self.view_is in
    let far = subst (λ s. c.first_block-first.result + extent_blocks s.geometry.format ≤ block_count s.geometry) c.self.view_is c.first_block-first.ensures.within in
    let room = subst (λ f. f + extent_blocks c.args.self.now.geometry.format ≤ block_count c.args.self.now.geometry) value far in
    let within = block_there c.args.self.now.geometry c.args.place.extent (part_start c.args.place.offset c.loop-k.k) room (omega (arith, t.some, t.ends, c.requires.within)) in
    let there : first_block c.args.self.now.geometry c.args.place.extent + part_start c.args.place.offset c.loop-k.k / 4096 < length run.first = omega (arith, within, represents.blocks) in
    let long = cached_long run (first_block c.args.self.now.geometry c.args.place.extent + part_start c.args.place.offset c.loop-k.k / 4096)
    (c.executions_are_orderly.ensures.blocks run (first_block c.args.self.now.geometry c.args.place.extent + part_start c.args.place.offset c.loop-k.k / 4096) cache.legal there) in
    c.in_ok-extend_from_slice-in-Ok.ensures.items ∙ ap (λ xs. xs ++ c.in-Ok.part.now) (c.loop-k.invariant run cache represents)
    ∙ span_more c.args.self.now.geometry run c.args.place.extent c.args.place.offset c.args.place.len c.loop-k.k c.first_block-first.result c.part_start-start.result c.part_end.result c.in-Ok.part.now
    value c.part_start-start.ensures c.part_end.ensures some less there long (c.in-Ok.ensures.answer run cache).1
