use Rattle.std.proofs.Common.{◌≡◌, ◌∙◌, Some, ap}
use Rattle.patch_links.specs.State.{Class}
use Rattle.patch_graph.proofs.Laying.{laid-on, row-low, row-same}
use Rattle.patch_graph.proofs.Places.{err-more, ok-more}
use Rattle.patch_graph.proofs.skylines.lay.Goals as goal

pub returns-in-Some-clause-laid : goal.returns-in-Some-clause-laid
returns-in-Some-clause-laid g c =
    let rows = c.args.skylines.now.items in
    let i = c.block.inside.0 in
    let line = c.in-Some.line.now in
    let here : i ≡ c.args.class.block = c.block.view_is ∙ ap (λ (z : Class). z.block) c.class.view_is in
    ok-more c.lay.result _ _ c.lay.ensures.laid (λ key laid.
    laid-on rows c.args.class.block i c.args.top (Some line) c.lay.new.self here (row-low rows i line c.in-Some.ensures.value) c.in-Some.ensures.value laid)

pub returns-in-Some-clause-refused : goal.returns-in-Some-clause-refused
returns-in-Some-clause-refused g c = err-more c.lay.result _ _ c.lay.ensures.refused (row-same c.args.skylines.now.items c.block.inside.0 c.in-Some.line.now c.lay.new.self c.in-Some.ensures.value)
