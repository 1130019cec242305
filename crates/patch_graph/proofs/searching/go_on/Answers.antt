use Rattle.std.proofs.Common.{sym, ◌∙◌}
use Rattle.std.proofs.lemmas.Bool.{false≢true}
use Rattle.patch_graph.proofs.searching.go_on.Goals as goal

pub loop-head-preserved : goal.loop-head-preserved
loop-head-preserved g c = c.look-tail.ensures c.args.course.from c.loop-head-test.true c.loop-head.invariant

-- broken off
pub returns-then-is_over-clause-under_way : goal.returns-then-is_over-clause-under_way
returns-then-is_over-clause-under_way g c = rw c.moved.ensures c.loop-head.invariant

pub returns-clause-under_way : goal.returns-clause-under_way
returns-clause-under_way g c = rw c.moved-2.ensures c.loop-head.invariant

pub returns-then-is_over-clause-whole : goal.returns-then-is_over-clause-whole
returns-then-is_over-clause-whole g c none = absurd (false≢true (sym (c.is_over.ensures none) ∙ c.if-is_over.true))
