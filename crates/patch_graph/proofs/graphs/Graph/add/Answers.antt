use Rattle.std.proofs.Common.{◌∙◌}
use Rattle.patch_graph.proofs.graphs.Graph.add.Goals as goal

pub returns-clause-answer : goal.returns-clause-answer
returns-clause-answer g c all p r is orderly =
    let t = c.in_ok-newcomer.ensures.answer all p r is orderly in
    let put = c.in_ok-put_in.ensures.answer all p c.args.block c.args.start c.args.stop c.args.after.now c.args.undo c.in_ok-newcomer.ensures.drawn r is orderly in
    (put, c.no-no.ensures ∙ t.0, c.is_hard-hard.ensures ∙ t.1)
