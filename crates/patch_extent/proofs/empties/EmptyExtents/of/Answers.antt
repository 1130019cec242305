use Rattle.std.proofs.Common.{◌≡◌, ◌∙◌, ◌++◌, ◌∷◌, [], true, false, length, get_or, sym, ap, arith}
use Rattle.std.specs.List.{insert}
use Rattle.std.proofs.lemmas.List.{get_or_read, length-append}
use Rattle.std.proofs.lemmas.List.Edits.{insert_end}
use Rattle.patch_plans.specs.declared.records.Extent.{Extent}
use Rattle.patch_plans.specs.Extents.{is_empty_in, no_extent}
use Rattle.patch_extent.proofs.Emptied.{same_number, other_number}
use Rattle.patch_extent.proofs.Rising.{one_passes, one_fails}
use Rattle.patch_extent.proofs.empties.EmptyExtents.of.Goals as goal
use Rattle.patch_extent.proofs.empties.EmptyExtents.of.Goals.{then-each-extent-eq0, else-each-extent-eq0}

pub loop-extent-preserved : goal.loop-extent-preserved
loop-extent-preserved g c =
    let each = c.args.each.now in
    let e = c.loop-extent.extent in
    let there = c.loop-extent-test.true in
    let at = get_or_read each e c.index-each-extent.result there c.index-each-extent.is no_extent in
    let so_far = c.loop-extent.invariant.0 in
    let few = c.loop-extent.invariant.1 in
    elim c.if-each-extent-eq0.branch [
      | then-each-extent-eq0 w ↦
          let on : is_empty_in each e ≡ true = same_number (get_or each e no_extent).pointer.offset 0 (ap (λ (k : Extent). k.pointer.offset) (sym at ∙ c.index-each-extent.is) ∙ w.if-each-extent-eq0.true) in
          let before = c.loop-extent.numbers in
          let now = w.numbers-is ∙ w.insert.ensures ∙ ap (λ at. insert before at e) w.len-last.ensures ∙ insert_end before e in
          let long = ap length now ∙ length-append before (e ∷ []) in
          (now ∙ ap (λ xs. xs ++ e ∷ []) so_far ∙ one_passes (is_empty_in each) e on, omega (arith, long, few))
      | else-each-extent-eq0 w ↦
          let off : is_empty_in each e ≡ false = other_number (get_or each e no_extent).pointer.offset 0
          (λ zero. w.if-each-extent-eq0.false (ap (λ (k : Extent). k.pointer.offset) (sym c.index-each-extent.is ∙ at) ∙ zero)) in
          let now = w.numbers-is in
          let long = ap length now in
          (now ∙ so_far ∙ one_fails (is_empty_in each) e off, omega (arith, long, few))
    ]
