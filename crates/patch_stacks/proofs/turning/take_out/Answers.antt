use Rattle.std.proofs.Common.{◌≡◌, ◌+◌, ◌-◌, ◌<◌, ◌∙◌, length, get_or, ap, arith}
use Rattle.std.specs.List.{remove}
use Rattle.std.proofs.lemmas.List.{with_items_is}
use Rattle.patch_stacks.proofs.Rotating.{turned_out, turned_last, length-turned_up}
use Rattle.patch_stacks.proofs.turning.take_out.Goals as goal

pub returns-clause-items : goal.returns-clause-items
returns-clause-items g c =
    let e = c.as_mut_slice.ensures.value in
    let x = get_or c.as_mut_slice.result.now c.args.at c.remove.result in
    let within : c.args.at < length c.as_mut_slice.result.now = omega (arith, c.requires, c.as_mut_slice.ensures.len) in
    let turn = c.turn_up.ensures c.remove.result in
    let long = ap length turn ∙ length-turned_up c.as_mut_slice.result.now c.args.at x within ∙ c.as_mut_slice.ensures.len in
    let count : length c.as_mut_slice.result.now ≡ c.len-last.result - 1 + 1 = omega (arith, c.requires, c.as_mut_slice.ensures.len, c.len-last.ensures) in
    c.remove.ensures.items
    ∙ turned_out c.as_mut_slice.result.now _ c.args.at (c.len-last.result - 1) x within count (with_items_is c.args.list.now _ long ∙ turn)
    ∙ ap (λ cs. remove cs c.args.at) e

pub returns-clause-value : goal.returns-clause-value
returns-clause-value g c =
    let e = c.as_mut_slice.ensures.value in
    let x = get_or c.as_mut_slice.result.now c.args.at c.remove.result in
    let within : c.args.at < length c.as_mut_slice.result.now = omega (arith, c.requires, c.as_mut_slice.ensures.len) in
    let turn = c.turn_up.ensures c.remove.result in
    let long = ap length turn ∙ length-turned_up c.as_mut_slice.result.now c.args.at x within ∙ c.as_mut_slice.ensures.len in
    let count : length c.as_mut_slice.result.now ≡ c.len-last.result - 1 + 1 = omega (arith, c.requires, c.as_mut_slice.ensures.len, c.len-last.ensures) in
    c.remove.ensures.value
    ∙ turned_last c.as_mut_slice.result.now _ c.args.at (c.len-last.result - 1) x c.remove.result within count (with_items_is c.args.list.now _ long ∙ turn)
    ∙ ap (λ cs. get_or cs c.args.at c.remove.result) e
