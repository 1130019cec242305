use Rattle.std.proofs.Common.{◌<◌, ◌∙◌, length, slice_range, refl, sym, ap, subst, arith}
use Rattle.std.proofs.lemmas.Result.{err_from_is_err_and}
use Rattle.patch_model.specs.History.{history_of, cached}
use Rattle.patch_frame.specs.Geometry.{pointer_block}
use Rattle.patch_extent.specs.Answers.{tells_bad}
use Rattle.patch_extent.specs.Opening.{AreRecords, has_bad_record, has_bad_pointers}
use Rattle.patch_extent.proofs.Patches.{cached_long, cached_on}
use Rattle.patch_extent.proofs.NextStep.{pointer_block_there}
use Rattle.patch_extent.proofs.Beginning.{block_read, records_represent, each_read, zeros_behind}
use Rattle.patch_extent.proofs.extents.Extents.open.Goals as goal

pub returns-then-block-lt-BLOCK-clause-opened : goal.returns-then-block-lt-BLOCK-clause-opened
returns-then-block-lt-BLOCK-clause-opened g c run cache =
    let geometry = c.args.geometry in
    let low = pointer_block_there c.args.geometry in
    let there : pointer_block c.args.geometry < length run.first = omega (arith, low, c.requires.blocks, cache.count) in
    let long = cached_long run (pointer_block c.args.geometry) (c.executions_are_orderly.ensures.blocks run (pointer_block c.args.geometry) cache.legal there) in
    let is = (c.in-Ok.ensures.answer run cache).1 ∙ ap (λ b. slice_range (cached (history_of run b)) 0 4096) c.pointer_block.ensures in
    let whole = ap length (block_read run c.args.geometry c.in-Ok.block.now there long is) ∙ ap length (cached_on run (pointer_block c.args.geometry) there) ∙ long in
    absurd (omega (arith, whole, c.if-block-lt-BLOCK.true))

pub returns-then-has_bad_pointers-clause-opened : goal.returns-then-has_bad_pointers-clause-opened
returns-then-has_bad_pointers-clause-opened g c run cache =
    let low = pointer_block_there c.args.geometry in
    let there : pointer_block c.args.geometry < length run.first = omega (arith, low, c.requires.blocks, cache.count) in
    let long = cached_long run (pointer_block c.args.geometry) (c.executions_are_orderly.ensures.blocks run (pointer_block c.args.geometry) cache.legal there) in
    let is = (c.in-Ok.ensures.answer run cache).1 ∙ ap (λ b. slice_range (cached (history_of run b)) 0 4096) c.pointer_block.ensures in
    ap (has_bad_pointers c.args.geometry) (sym (block_read run c.args.geometry c.in-Ok.block.now there long is)) ∙ sym c.has_bad_pointers.ensures ∙ c.if-has_bad_pointers.true

pub read_records-requires-clause-read : goal.read_records-requires-clause-read
read_records-requires-clause-read g c = each_read (has_bad_record c.args.geometry c.in-Ok.block.now) _ (sym c.has_bad_pointers.ensures ∙ c.if-has_bad_pointers.false)

pub returns-in_err-each-clause-opened : goal.returns-in_err-each-clause-opened
returns-in_err-each-clause-opened g c run cache =
    let p = err_from_is_err_and c.from_residual.result c.from_residual.ensures.1 in
    let low = pointer_block_there c.args.geometry in
    let there : pointer_block c.args.geometry < length run.first = omega (arith, low, c.requires.blocks, cache.count) in
    let long = cached_long run (pointer_block c.args.geometry) (c.executions_are_orderly.ensures.blocks run (pointer_block c.args.geometry) cache.legal there) in
    let is = (c.in-Ok.ensures.answer run cache).1 ∙ ap (λ b. slice_range (cached (history_of run b)) 0 4096) c.pointer_block.ensures in
    let good = ap (has_bad_pointers c.args.geometry) (sym (block_read run c.args.geometry c.in-Ok.block.now there long is)) ∙ sym c.has_bad_pointers.ensures ∙ c.if-has_bad_pointers.false in
    rw p.1 (good ∙ ap tells_bad (sym p.2))

pub returns-in_err-empty-clause-opened : goal.returns-in_err-empty-clause-opened
returns-in_err-empty-clause-opened g c run cache =
    let p = err_from_is_err_and c.from_residual-in_err-empty.result c.from_residual-in_err-empty.ensures.1 in
    let low = pointer_block_there c.args.geometry in
    let there : pointer_block c.args.geometry < length run.first = omega (arith, low, c.requires.blocks, cache.count) in
    let long = cached_long run (pointer_block c.args.geometry) (c.executions_are_orderly.ensures.blocks run (pointer_block c.args.geometry) cache.legal there) in
    let is = (c.in-Ok.ensures.answer run cache).1 ∙ ap (λ b. slice_range (cached (history_of run b)) 0 4096) c.pointer_block.ensures in
    let good = ap (has_bad_pointers c.args.geometry) (sym (block_read run c.args.geometry c.in-Ok.block.now there long is)) ∙ sym c.has_bad_pointers.ensures ∙ c.if-has_bad_pointers.false in
    rw p.1 (good ∙ ap tells_bad (sym p.2))

pub returns-clause-opened : goal.returns-clause-opened
returns-clause-opened g c run cache =
    let low = pointer_block_there c.args.geometry in
    let there : pointer_block c.args.geometry < length run.first = omega (arith, low, c.requires.blocks, cache.count) in
    let long = cached_long run (pointer_block c.args.geometry) (c.executions_are_orderly.ensures.blocks run (pointer_block c.args.geometry) cache.legal there) in
    let is = (c.in-Ok.ensures.answer run cache).1 ∙ ap (λ b. slice_range (cached (history_of run b)) 0 4096) c.pointer_block.ensures in
    let whole = block_read run c.args.geometry c.in-Ok.block.now there long is in
    let good = sym c.has_bad_pointers.ensures ∙ c.if-has_bad_pointers.false in
    let rest = zeros_behind (has_bad_record c.args.geometry c.in-Ok.block.now) _ good in
    record {
      good = ap (has_bad_pointers c.args.geometry) (sym whole) ∙ good;
      divided = refl;
      records = subst (λ b. AreRecords c.args.geometry b c.in_ok-each.each.items c.args.geometry.extents) whole c.in_ok-each.ensures;
      represents = λ none. records_represent c.args.geometry run c.in-Ok.block.now c.in_ok-each.each.items c.requires.geometry (sym cache.count ∙ sym c.requires.blocks) none
          whole c.in_ok-each.ensures rest;
    }
