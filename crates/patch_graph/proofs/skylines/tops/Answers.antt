use Rattle.std.proofs.Common.{List, None, Some, [], rules, subst}
use Rattle.patch_skyline.specs.declared.skylines.Span.{Span}
use Rattle.patch_skyline.specs.Skyline.{AreTops}
use Rattle.patch_graph.proofs.Laying.{line-at}
use Rattle.patch_graph.proofs.skylines.tops.Goals as goal

pub returns-in-Some : goal.returns-in-Some
returns-in-Some g c =
    subst (λ (ss : List Span). AreTops ss c.args.start c.args.stop c.tops.result.now)
    (line-at c.args.skylines.now.items c.args.block c.block.inside.0 (Some c.in-Some.line.now) c.block.view_is c.in-Some.ensures) c.tops.ensures

pub returns-in-None : goal.returns-in-None
returns-in-None g c =
    let none : AreTops [] c.args.start c.args.stop [] = search rules in
    subst (λ (ss : List Span). AreTops ss c.args.start c.args.stop [])
    (line-at c.args.skylines.now.items c.args.block c.block.inside.0 None c.block.view_is c.in-None.ensures) none
