use Rattle.std.proofs.Common.{subst, ◌∙◌, arith}
use Rattle.patch_graph.specs.Search.{Visited}
use Rattle.patch_graph.proofs.Searches.{looked, look-ends}
use Rattle.patch_graph.proofs.Places.{same_default}
use Rattle.patch_graph.proofs.searching.visit_all.Goals as goal

pub loop-no-preserved : goal.loop-no-preserved
loop-no-preserved g c from stop key are l =
    let e = subst (λ z. Visited c.args.register.now.numbers c.args.way z c.loop-no.marks c.visit-end.new.marks c.loop-no.queue c.visit-end.new.queue c.loop-no.end c.visit-end.result)
    (c.no-item.is ∙ same_default c.args.next.now c.loop-no.no-index c.no-item.result 0 (omega arith)) c.visit-end.ensures in
    looked _ _ _ from stop key _ _ _ _ _ _ _ _ _ are (c.loop-no.invariant from stop key are l) (omega arith) e

pub returns : goal.returns
returns g c from stop key are l = look-ends _ _ _ from stop key _ _ _ _ _ _ (c.loop-no.invariant from stop key are l) (omega arith)
