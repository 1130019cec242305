use Rattle.std.proofs.Common.{◌≡◌, ◌∙◌, ◌+◌, ◌++◌, ◌∷◌, [], suc, sym, ap, arith}
use Rattle.std.specs.List.{range_with_len}
use Rattle.patch_extent.proofs.Making.{range_more}
use Rattle.patch_extent.proofs.parting.numbers_from.Goals as goal

pub loop-k-preserved : goal.loop-k-preserved
loop-k-preserved g c =
    let first = c.args.first in
    let k = c.loop-k.k in
    let e : k + 1 ≡ suc k = omega arith in
    c.in_ok-push.ensures.items ∙ ap (λ xs. xs ++ (first + k) ∷ []) c.loop-k.invariant ∙ sym (range_more first k) ∙ ap (range_with_len first) (sym e)
