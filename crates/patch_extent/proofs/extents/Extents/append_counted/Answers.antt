use Rattle.std.proofs.Common.{◌≡◌, ℕ, List, ◌+◌, ◌<◌, ◌≤◌, ◌++◌, ◌∙◌, [], length, get_or, false, Some, refl, sym, ap, subst, arith}
use Rattle.std.specs.Prelude.{◌==◌, option_to_list}
use Rattle.std.specs.List.{range_with_len}
use Rattle.std.proofs.lemmas.List.{get_or_read}
use Rattle.std.proofs.lemmas.Result.{MatchResult-from_err}
use Rattle.patch_model.specs.State.{entries_of}
use Rattle.patch_frame.specs.declared.pointers.Pointer.{Pointer}
use Rattle.patch_frame.specs.Geometry.{largest_pointer, pointer_block, pointer_start}
use Rattle.patch_frame.specs.Pointer.{Fits, spelling}
use Rattle.patch_extent.specs.declared.places.Place.{Place}
use Rattle.patch_plans.specs.declared.records.Extent.{Extent}
use Rattle.patch_plans.specs.Extents.{Extents, no_extent, extent_at, generation_at, offset_at}
use Rattle.patch_extent.proofs.Emptied.{is_empty, still_whole, empties_taken}
use Rattle.patch_plans.specs.Planning.{touched, parts, names_behind}
use Rattle.patch_extent.specs.Answers.{setting, asked, AreMade, IsBegun, plan_of}
use Rattle.patch_extent.specs.Appending.{IsPatched, MergesBehind, IsDone}
use Rattle.patch_extent.proofs.Finishing.{none_begun, append_begun, append_done, done_as, some_offset, pointed_is, moved_is}
use Rattle.patch_extent.proofs.extents.Extents.append_counted.Goals as goal

pub returns-in_err-names-clause-answer : goal.returns-in_err-names-clause-answer
returns-in_err-names-clause-answer g c run h =
    MatchResult-from_err _ _ _ c.from_residual.ensures.0 (λ _. none_begun run (asked c.args.writer c.args.extent c.args.bytes c.args.after.now)
    (setting c.args.self.now c.args.groups.now c.args.cache.now) h)

pub returns-in_err-numbers-clause-answer : goal.returns-in_err-numbers-clause-answer
returns-in_err-numbers-clause-answer g c run h =
    MatchResult-from_err _ _ _ c.from_residual-in_err-numbers.ensures.0
    (λ _. none_begun run (asked c.args.writer c.args.extent c.args.bytes c.args.after.now) (setting c.args.self.now c.args.groups.now c.args.cache.now) h)

pub returns-in_err-lay_given-clause-answer : goal.returns-in_err-lay_given-clause-answer
returns-in_err-lay_given-clause-answer g c run h =
    let inside : c.args.extent < length c.args.self.now.each = omega (arith, h.represents.whole.count) in
    let at = get_or_read c.args.self.now.each c.args.extent c.index.result.now inside (c.index.ensures ∙ ap (λ s. get_or s.each c.args.extent c.index.result.now) c.self.view_is) no_extent in
    let names = c.in_ok-names.ensures ∙ ap (λ k. c.args.after.now ++ option_to_list k.reset) at in
    let told = c.in_err-lay_given.ensures run h in
    MatchResult-from_err _ _ _ c.from_residual-in_err-lay_given.ensures.0
    (λ _. append_begun run (asked c.args.writer c.args.extent c.args.bytes c.args.after.now) (setting c.args.self.now c.args.groups.now c.args.cache.now)
    c.lay_given.new.groups c.lay_given.new.cache told.0 c.in_ok-names.names names (omega (arith, told.1)) told.2)

pub returns-in_err-no-clause-answer : goal.returns-in_err-no-clause-answer
returns-in_err-no-clause-answer g c run h =
    let inside : c.args.extent < length c.args.self.now.each = omega (arith, h.represents.whole.count) in
    let at = get_or_read c.args.self.now.each c.args.extent c.index.result.now inside (c.index.ensures ∙ ap (λ s. get_or s.each c.args.extent c.index.result.now) c.self.view_is) no_extent in
    let names = c.in_ok-names.ensures ∙ ap (λ k. c.args.after.now ++ option_to_list k.reset) at in
    let told = c.in_ok-lay_given.ensures run h in
    let same = c.in_err-no.ensures in
    let old = setting c.args.self.now c.args.groups.now c.args.cache.now in
    let a = asked c.args.writer c.args.extent c.args.bytes c.args.after.now in
    MatchResult-from_err _ _ _ c.from_residual-in_err-no.ensures.0 (λ _.
    subst (λ gs. IsBegun run c.args.writer (plan_of run c.args.self.now (asked c.args.writer c.args.extent c.args.bytes c.args.after.now))
    (setting c.args.self.now c.args.groups.now c.args.cache.now) (setting c.args.self.now gs c.lay_pointer.new.cache)) (sym same.0)
    (subst (λ k. IsBegun run c.args.writer (plan_of run c.args.self.now (asked c.args.writer c.args.extent c.args.bytes c.args.after.now))
    (setting c.args.self.now c.args.groups.now c.args.cache.now) (setting c.args.self.now c.lay_given.new.groups k)) (sym same.1)
    (append_begun run a old c.lay_given.new.groups c.lay_given.new.cache (touched (offset_at c.args.self.now c.args.extent) (length c.args.bytes)) c.in_ok-names.names names (omega arith) told)))

pub returns-clause-answer : goal.returns-clause-answer
returns-clause-answer g c run h =
    let s = c.args.self.now in
    let e = c.args.extent in
    let bytes = c.as_slice.result.now in
    let writer = c.args.writer in
    let same : c.as_slice.result.now ≡ c.args.bytes = c.as_slice.ensures in
    let many : 0 < length c.as_slice.result.now = subst (λ (bs : List ℕ). 0 < length bs) (sym same) c.requires.some in
    let inside : c.args.extent < length c.args.self.now.each = omega (arith, h.represents.whole.count) in
    let at : c.index.result.now ≡ extent_at c.args.self.now c.args.extent = get_or_read c.args.self.now.each c.args.extent c.index.result.now inside
    (c.index.ensures ∙ ap (λ t. get_or t.each c.args.extent c.index.result.now) c.self.view_is) no_extent in
    let again : c.index_mut-record.result.now ≡ extent_at c.args.self.now c.args.extent = get_or_read c.args.self.now.each c.args.extent c.index_mut-record.result.now inside
    (c.index_mut-record.ensures.value ∙ ap (λ t. get_or t.each c.args.extent c.index_mut-record.result.now) c.self.view_is) no_extent in
    let names : c.in_ok-names.names ≡ names_behind c.args.self.now c.args.extent c.args.after.now = c.in_ok-names.ensures
    ∙ ap (λ k. c.args.after.now ++ option_to_list k.reset) at in
    let count : c.touched-count.result ≡ touched (offset_at c.args.self.now c.args.extent) (length c.as_slice.result.now) = c.touched-count.ensures
    ∙ ap (λ k. touched k.pointer.offset (length c.as_slice.result.now)) at in
    let numbers : c.in_ok-numbers.numbers ≡ range_with_len (length (entries_of run)) (touched (offset_at c.args.self.now c.args.extent) (length c.as_slice.result.now)) =
    c.in_ok-numbers.ensures ∙ ap (λ n. range_with_len n c.touched-count.result) (c.made.ensures.answer run h.cache_is)
    ∙ ap (range_with_len (length (entries_of run))) count in
    let room : offset_at s e + length bytes ≤ largest_pointer s.geometry.format = subst (λ (bs : List ℕ). offset_at s e + length bs ≤ largest_pointer s.geometry.format) (sym same) c.requires.room in
    let a = asked c.args.writer c.args.extent c.as_slice.result.now c.args.after.now in
    let old = setting c.args.self.now c.args.groups.now c.args.cache.now in
    let gs1 = c.lay_given.new.groups in
    let c1 = c.lay_given.new.cache in
    let gs2 = c.lay_pointer.new.groups in
    let c2 = c.lay_pointer.new.cache in
    let num = c.in_ok-no.no in
    let gen = generation_at c.args.self.now c.args.extent in
    let to = offset_at c.args.self.now c.args.extent + length c.as_slice.result.now in
    let made = subst (λ ns. AreMade run writer [] (parts e (offset_at s e) bytes ns (touched (offset_at s e) (length bytes))) old (setting s gs1 c1)) names
    (subst (λ bs. AreMade run writer [] (parts e (offset_at s e) bs c.in_ok-names.names (touched (offset_at s e) (length bs))) old (setting s gs1 c1)) (sym same)
    (c.in_ok-lay_given.ensures run h)) in
    let patched = subst (λ ns. IsPatched (pointer_block s.geometry) (pointer_start e)
    (spelling (record { generation = generation_at s e; offset = offset_at s e + length bytes })) writer ns gs1 c1 gs2 c2 num) numbers
    (subst (λ (k : Extent). IsPatched (pointer_block s.geometry) (pointer_start e)
    (spelling (record { generation = k.pointer.generation; offset = k.pointer.offset + length bytes })) writer c.in_ok-numbers.numbers gs1 c1 gs2 c2 num) at c.in_ok-no.ensures) in
    let merged = subst (λ (k : Extent). MergesBehind k.point num c.merge_behind-merge.result c2 c.merge_behind-merge.new.cache) at c.merge_behind-merge.ensures in
    let x : Extent = record { pointer = record { generation = c.index.result.now.pointer.generation; offset = c.index.result.now.pointer.offset + length c.as_slice.result.now }; reset = c.index_mut-record.result.now.reset; point = Some c.in_ok-no.no } in
    let some : (offset_at c.args.self.now c.args.extent + length c.as_slice.result.now == 0) ≡ false = some_offset (offset_at c.args.self.now c.args.extent) (length c.as_slice.result.now) many in
    let pointed = pointed_is x (extent_at s e) num gen to (ap
    (λ (k : Extent). let p : Pointer = record { generation = k.pointer.generation; offset = k.pointer.offset + length bytes } in p) at) (ap (λ (k : Extent). k.reset) again) refl some in
    let moved = moved_is (record { geometry = c.self.inside.geometry; each = c.self.inside.each.items }) s e num gen to x c.self.view_is pointed in
    done_as run writer e bytes c.args.bytes c.args.after.now old _ _ same (subst (λ t. IsDone run a old (setting t gs2 c.merge_behind-merge.new.cache)
    (record { place = record { extent = e; generation = c.index.result.now.pointer.generation; offset = c.index.result.now.pointer.offset; len = length bytes }; pointer_patch = num; merge = c.merge_behind-merge.result })) (sym moved)
    (append_done c.steps_extend.ensures.state c.pointers_are_read_again.ensures c.executions_are_orderly.ensures.blocks run a old gs1 gs2 c1 c2 c.merge_behind-merge.new.cache num c.merge_behind-merge.result
    (record { place = record { extent = e; generation = c.index.result.now.pointer.generation; offset = c.index.result.now.pointer.offset; len = length bytes }; pointer_patch = num; merge = c.merge_behind-merge.result })
    c.requires.known many (record { generation = (h.represents.whole.fits e).generation; offset = room }) made patched merged
    (ap (λ (k : Extent). let p : Place = record { extent = e; generation = k.pointer.generation; offset = k.pointer.offset; len = length bytes } in p) at) refl refl))

pub invariant_of-self : goal.invariant_of-self
invariant_of-self g c =
    let s : Extents = record { geometry = c.self.inside.geometry; each = c.self.inside.each.items } in
    let e = c.args.extent in
    let bytes = c.as_slice.result.now in
    let x : Extent = record { pointer = record { generation = c.index.result.now.pointer.generation; offset = c.index.result.now.pointer.offset + length c.as_slice.result.now }; reset = c.index_mut-record.result.now.reset; point = Some c.in_ok-no.no } in
    let whole = c.self.invariant.0 in
    let count = whole.count in
    let known : e < s.geometry.extents = subst (λ (t : Extents). e < t.geometry.extents) (sym c.self.view_is) c.requires.known in
    let at : c.index.result.now ≡ extent_at s e = get_or_read s.each e c.index.result.now (omega (arith, known, count)) c.index.ensures no_extent in
    let room = subst (λ (t : Extents). offset_at t e + length bytes ≤ largest_pointer t.geometry.format) (sym c.self.view_is) (subst (λ (bs : List ℕ). offset_at c.args.self.now e + length bs ≤ largest_pointer c.args.self.now.geometry.format) (sym c.as_slice.ensures) c.requires.room) in
    let fits : Fits (largest_pointer s.geometry.format) x.pointer = subst
    (λ (k : Extent). Fits (largest_pointer s.geometry.format) (record { generation = k.pointer.generation; offset = k.pointer.offset + length bytes }))
    (sym at) (record { generation = (whole.fits e).generation; offset = room }) in (
      still_whole s e x whole known fits,
      empties_taken s e x c.take.new.self whole known (some_offset c.index.result.now.pointer.offset (length bytes) (subst (λ (bs : List ℕ). 0 < length bs) (sym c.as_slice.ensures) c.requires.some))
          (c.take.ensures (is_empty s) s.geometry.extents c.self.invariant.1),
    )
