use Rattle.std.proofs.Common.{◌∙◌, ◌++◌, sym, ap}
use Rattle.std.specs.Prelude.{nat_lt}
use Rattle.patch_graph.proofs.Entered.{all-stay}
use Rattle.patch_graph.proofs.Places.{done-if}
use Rattle.patch_graph.proofs.adding.push_numbers.Goals as goal

pub returns-then-are_below : goal.returns-then-are_below
returns-then-are_below g c =
    let all = all-stay (λ n. nat_lt n c.args.made) c.args.numbers.now (sym c.are_below.ensures ∙ c.if-are_below.true) in
    c.extend_reserved.ensures.items ∙ ap (λ xs. xs ++ c.args.numbers.now) c.reserve.ensures.items ∙ ap (λ xs. c.args.all.now.items ++ xs) (sym all)

pub returns-in_err-reserve : goal.returns-in_err-reserve
returns-in_err-reserve g c = done-if _ _ c.from_residual.ensures.0
