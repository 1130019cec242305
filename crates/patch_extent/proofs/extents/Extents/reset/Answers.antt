use Rattle.std.proofs.Common.{◌≡◌, ◌+◌, ◌<◌, ◌++◌, ◌∷◌, ◌∙◌, [], length, get_or, Some, sym, ap, subst, arith}
use Rattle.std.proofs.lemmas.List.{get_or_read}
use Rattle.patch_model.specs.declared.patches.Undo.TheVariants.{MayDrop}
use Rattle.patch_model.specs.Step.{Create}
use Rattle.patch_model.specs.Execution.{Execution}
use Rattle.patch_frame.specs.Geometry.{largest_pointer, pointer_block, pointer_start}
use Rattle.patch_frame.specs.Pointer.{Fits, spelling}
use Rattle.patch_cache.specs.Creating.{IsMade}
use Rattle.patch_cache.specs.Meaning.{IsCacheOf}
use Rattle.patch_plans.specs.declared.records.Extent.{Extent}
use Rattle.patch_plans.specs.Extents.{Extents, no_extent, extent_at, generation_at, pointed}
use Rattle.patch_extent.proofs.Emptied.{is_empty, same_number, still_whole, empties_put}
use Rattle.patch_extent.specs.Answers.{setting, IsReset}
use Rattle.patch_extent.proofs.Finishing.{reset_done, moved_is}
use Rattle.patch_extent.proofs.extents.Extents.reset.Goals as goal

pub returns-clause-answer : goal.returns-clause-answer
returns-clause-answer g c groups run h =
    let s = c.args.self.now in
    let e = c.args.extent in
    let after = c.args.after.now in
    let inside : c.args.extent < length c.args.self.now.each = omega (arith, h.represents.whole.count, c.in_ok-why_not_reset.ensures.known) in
    let at : c.index.result.now ≡ extent_at c.args.self.now c.args.extent = get_or_read c.args.self.now.each c.args.extent c.index.result.now inside
    (c.index.ensures ∙ ap (λ t. get_or t.each c.args.extent c.index.result.now) c.self.view_is) no_extent in
    let old = setting c.args.self.now groups c.args.cache.now in
    let c2 = c.lay_record.new.cache in
    let num = c.in_ok-no.no in
    let made = subst (λ (k : Extent). (r : Execution) → IsCacheOf c.args.cache.now r
    → IsMade r (pointer_block s.geometry) (pointer_start e) (spelling (record { generation = k.pointer.generation + 1; offset = 0 })) after MayDrop num c2) at c.in_ok-no.ensures.made in
    let trace = subst (λ (k : Extent). c2.trace ≡ c.args.cache.now.trace
    ++ Create (pointer_block s.geometry) (pointer_start e) (spelling (record { generation = k.pointer.generation + 1; offset = 0 })) after MayDrop ∷ []) at c.in_ok-no.ensures.trace in
    let left = c.in_ok-why_not_reset.ensures.left in
    let done = reset_done c.steps_extend.ensures.state c.pointers_are_read_again.ensures c.executions_are_orderly.ensures.blocks run e after old c2 num
    c.in_ok-why_not_reset.ensures.known (record { generation = omega (arith, left); offset = omega arith }) h made trace in
    let x : Extent = record { pointer = record { generation = c.index.result.now.pointer.generation + 1; offset = 0 }; reset = Some c.in_ok-no.no; point = Some c.in_ok-no.no } in
    let is : x ≡ pointed num (generation_at s e + 1) 0 (extent_at s e) =
    ap (λ (k : Extent). let y : Extent = record { pointer = record { generation = k.pointer.generation + 1; offset = 0 }; reset = Some c.in_ok-no.no; point = Some c.in_ok-no.no } in y) at in
    let moved = moved_is (record { geometry = c.self.inside.geometry; each = c.self.inside.each.items }) s e num (generation_at s e + 1) 0 x c.self.view_is is in
    subst (λ t. IsReset run e after old (setting t groups c2) num) (sym moved)
    (record { no_cause = c.in_ok-why_not_reset.ensures.none run h.cache_is; patch_is = done.0; is_written = done.1 })

pub put-requires : goal.put-requires
put-requires g c =
    let s : Extents = record { geometry = c.self.inside.geometry; each = c.self.inside.each.items } in
    record {
      test = is_empty s;
      count = s.geometry.extents;
      few = c.self.invariant.0.geometry.few_extents;
      below = subst (λ (t : Extents). c.args.extent < t.geometry.extents) (sym c.self.view_is) c.in_ok-why_not_reset.ensures.known;
      numbers_are = c.self.invariant.1;
    }

pub invariant_of-self : goal.invariant_of-self
invariant_of-self g c =
    let s : Extents = record { geometry = c.self.inside.geometry; each = c.self.inside.each.items } in
    let e = c.args.extent in
    let x : Extent = record { pointer = record { generation = c.index.result.now.pointer.generation + 1; offset = 0 }; reset = Some c.in_ok-no.no; point = Some c.in_ok-no.no } in
    let whole = c.self.invariant.0 in
    let count = whole.count in
    let known : e < s.geometry.extents = subst (λ (t : Extents). e < t.geometry.extents) (sym c.self.view_is) c.in_ok-why_not_reset.ensures.known in
    let at : c.index.result.now ≡ extent_at s e = get_or_read s.each e c.index.result.now (omega (arith, known, count)) c.index.ensures no_extent in
    let left = subst (λ (t : Extents). generation_at t e < 4294967295) (sym c.self.view_is) c.in_ok-why_not_reset.ensures.left in
    let fits : Fits (largest_pointer s.geometry.format) x.pointer = subst
    (λ (k : Extent). Fits (largest_pointer s.geometry.format) (record { generation = k.pointer.generation + 1; offset = 0 }))
    (sym at) (record { generation = omega (arith, left); offset = omega arith }) in (
      still_whole s e x whole known fits,
      empties_put s e x c.put.new.self whole known (same_number 0 0 (omega arith)) (c.put.ensures (is_empty s) s.geometry.extents known c.self.invariant.1),
    )
