use Rattle.std.proofs.Common.{◌≡◌, ◌∙◌, ◌+◌, ◌<◌, ◌≤◌, ◌++◌, ◌∷◌, [], ℕ, List, None, Some, length, length-append, append_assoc, replicate, refl, sym, ap, subst, arith}
use Rattle.std.specs.Prelude.{slice_index_or, slice_set}
use Rattle.std.proofs.lemmas.List.{append-nil, take_all}
use Rattle.patch_cache.specs.Opening.{AreUnpatched}
use Rattle.patch_cache.proofs.Opening.{AreFilled, all_filled, none_filled, one_more}
use Rattle.patch_cache.proofs.caches.all_resident.Goals as goal

pub loop-block-init : goal.loop-block-init
loop-block-init g c = (
  tt,
  tt,
  (
    [],
    c.into_iter-block-iterator.ensures.into_iter_gives.0,
    refl,
    none_filled (length c.args.blocks.items) c.of-rows.result.items
        (c.of-rows.ensures ∙ ap (λ (n : ℕ). replicate n None) (let long = c.args.blocks.ok in let count = c.len.ensures in omega (arith, long, count))),
  ),
)

-- where one comes, there are more than are done
less_than : (done rest : List (List ℕ)) (next : List ℕ) (all left : List (List ℕ)) → done ++ rest ≡ all → rest ≡ next ∷ left → length done < length all
less_than done rest next all left is first =
    let long = ap length (sym is ∙ ap (λ xs. done ++ xs) first) ∙ length-append done (next ∷ left) in omega (arith, long)

pub put-requires-clause-within : goal.put-requires-clause-within
put-requires-clause-within g c =
    let before = c.loop-block.invariant.2 in
    let less = less_than before.0 _ c.in-Some.block c.args.blocks.items _ before.1 c.in-Some.ensures.steps.0 in
    let same = ap length c.in_ok-reserve.ensures.same in
    let many = before.3.many in
    let count = before.2 in omega (arith, less, same, many, count)

pub put-requires-clause-absent : goal.put-requires-clause-absent
put-requires-clause-absent g c =
    let before = c.loop-block.invariant.2 in
    ap (λ rs. slice_index_or rs c.loop-block.number None) c.in_ok-reserve.ensures.same ∙ before.3.rest c.loop-block.number (let count = before.2 in omega (arith, count))

pub overflow_add-number : goal.overflow_add-number
overflow_add-number g c =
    let before = c.loop-block.invariant.2 in
    let less = less_than before.0 _ c.in-Some.block c.args.blocks.items _ before.1 c.in-Some.ensures.steps.0 in
    let few = c.requires in
    let count = before.2 in omega (arith, less, few, count)

pub loop-block-preserved : goal.loop-block-preserved
loop-block-preserved g c =
    let before = c.loop-block.invariant.2 in
    let less = less_than before.0 _ c.in-Some.block c.args.blocks.items _ before.1 c.in-Some.ensures.steps.0 in
    let now = c.put.ensures ∙ ap (λ rs. slice_set rs c.loop-block.number (Some c.of.result)) c.in_ok-reserve.ensures.same in
    let long : length (before.0 ++ c.in-Some.block ∷ []) ≡ length before.0 + 1 = length-append before.0 (c.in-Some.block ∷ []) in (
      tt,
      tt,
      (
        before.0 ++ c.in-Some.block ∷ [],
        append_assoc before.0 (c.in-Some.block ∷ []) _ ∙ ap (λ xs. before.0 ++ xs) (sym c.in-Some.ensures.steps.0) ∙ before.1,
        (let count = before.2 in omega (arith, long, count)),
        subst (λ rs. AreFilled rs (before.0 ++ c.in-Some.block ∷ []) (length c.args.blocks.items)) (sym now)
            (one_more c.loop-block.rows.items before.0 (length c.args.blocks.items) c.loop-block.number c.of.result c.in-Some.block before.3 before.2 less
            (record { state = c.of.ensures.state; write = c.of.ensures.write })),
      ),
    )

pub returns : goal.returns
returns g c =
    let before = c.loop-block.invariant.2 in
    let over : length c.loop-block.block-iterator.rest.items ≤ 0 = omega (arith, c.in-None.ensures.steps.0, c.loop-block.block-iterator.rest.ok.0) in
    let all = sym (append-nil before.0) ∙ ap (λ xs. before.0 ++ xs) (take_all 0 c.loop-block.block-iterator.rest.items over) ∙ before.1 in
    subst (AreUnpatched c.loop-block.rows.items) all (all_filled c.loop-block.rows.items before.0 (length c.args.blocks.items) before.3 (sym (ap length all)))
