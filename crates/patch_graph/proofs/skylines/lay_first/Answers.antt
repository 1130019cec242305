use Rattle.std.proofs.Common.{◌≡◌, ◌<◌, ◌∙◌, ℕ, [], List, None, Some, ap, arith, length, set, subst, sym}
use Rattle.patch_links.specs.State.{Class}
use Rattle.patch_skyline.specs.declared.skylines.Span.{Span}
use Rattle.patch_skyline.specs.Skyline.{IsLaid}
use Rattle.patch_graph.specs.Skyline.{Skylines, IsLaidOn, lines_of, trimmed}
use Rattle.patch_graph.proofs.Laying.{Rows, laid-on, row_of, rows-alike}
use Rattle.patch_graph.proofs.Places.{err-still, ok-if}
use Rattle.patch_graph.proofs.skylines.lay_first.Goals as goal

pub returns-in_err-reserve-clause-laid : goal.returns-in_err-reserve-clause-laid
returns-in_err-reserve-clause-laid g c = ok-if _ _ c.from_residual.ensures.0

pub returns-in_err-reserve-clause-added : goal.returns-in_err-reserve-clause-added
returns-in_err-reserve-clause-added g c = ok-if _ _ c.from_residual.ensures.0

pub returns-in_err-reserve-clause-refused : goal.returns-in_err-reserve-clause-refused
returns-in_err-reserve-clause-refused g c =
    err-still _ _ (rows-alike c.args.skylines.now.items c.reserve.new.self.items (λ n. ap (λ (xs : Rows). row_of xs n) c.reserve.ensures.same ∙ c.lengthen.ensures.kept n))

pub returns-in_err-key-clause-laid : goal.returns-in_err-key-clause-laid
returns-in_err-key-clause-laid g c = ok-if _ _ c.from_residual-in_err-key.ensures.0

pub returns-in_err-key-clause-added : goal.returns-in_err-key-clause-added
returns-in_err-key-clause-added g c = ok-if _ _ c.from_residual-in_err-key.ensures.0

pub returns-in_err-key-clause-refused : goal.returns-in_err-key-clause-refused
returns-in_err-key-clause-refused g c =
    err-still _ _ (rows-alike c.args.skylines.now.items c.reserve.new.self.items (λ n. ap (λ (xs : Rows). row_of xs n) c.reserve.ensures.same ∙ c.lengthen.ensures.kept n))

pub returns-clause-laid : goal.returns-clause-laid
returns-clause-laid g c =
    let rows = c.args.skylines.now.items in
    let mid = c.reserve.new.self.items in
    let i = c.block.inside.0 in
    let here : i ≡ c.args.class.block = c.block.view_is ∙ ap (λ (z : Class). z.block) c.class.view_is in
    let alike : (n : ℕ) → row_of mid n ≡ row_of rows n = λ n. ap (λ (xs : Rows). row_of xs n) c.reserve.ensures.same ∙ c.lengthen.ensures.kept n in
    let none : row_of mid i ≡ None = alike i ∙ ap (row_of rows) here ∙ c.requires.none in
    let long = c.lengthen.ensures.long in
    let low : i < length mid = omega (arith, ap (λ (xs : Rows). length xs) c.reserve.ensures.same) in
    let laid : IsLaid [] c.lay.new.self c.args.top = subst (λ (ss : List Span). IsLaid ss c.lay.new.self c.args.top) c.new-line.ensures c.in_ok-key.ensures.laid in
    subst (λ (xs : Rows). IsLaidOn (trimmed (lines_of rows)) (trimmed (lines_of xs)) c.args.class.block c.args.top) (sym c.put.ensures)
    (subst (λ (z : Skylines). IsLaidOn z (trimmed (lines_of (set mid i (Some c.lay.new.self)))) c.args.class.block c.args.top) (rows-alike rows mid alike)
    (laid-on mid c.args.class.block i c.args.top None c.lay.new.self here low (sym none) laid))
