use Rattle.std.proofs.Common.{subst, sym}
use Rattle.patch_graph.specs.Skyline.{IsEmptied, lines_of, trimmed}
use Rattle.patch_graph.proofs.Laying.{Rows, taken-emptied}
use Rattle.patch_graph.proofs.skylines.forget.Goals as goal

pub returns : goal.returns
returns g c =
    let rows = c.args.skylines.now.items in
    subst (λ (xs : Rows). IsEmptied (trimmed (lines_of rows)) (trimmed (lines_of xs)) c.args.block) (sym c.take-line.ensures.left) (taken-emptied rows c.args.block c.block.inside.0 c.block.view_is)
