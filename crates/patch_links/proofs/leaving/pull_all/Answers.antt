use Rattle.std.proofs.Common.{sym, arith}
use Rattle.patch_links.proofs.Withdrawals.{pulled-none, pulled-more, pulled-skip, pulled-all}
use Rattle.patch_links.proofs.leaving.pull_all.Goals.{in-Some, in-None}
use Rattle.patch_links.proofs.leaving.pull_all.Goals as goal

pub loop-place-init : goal.loop-place-init
loop-place-init g c = pulled-none _ _ _ _ _ c.requires

pub pull_to-requires : goal.pull_to-requires
pull_to-requires g c = c.loop-place.invariant.holds

pub loop-place-preserved : goal.loop-place-preserved
loop-place-preserved g c = elim c.match-follower_at.branch [
  | in-Some w ↦ rw (w.nodes-is, w.list-is) (pulled-more _ _ _ _ _ _ _ _ _ _ _ c.loop-place.invariant (sym w.in-Some.ensures) w.pull_to.ensures)
  | in-None w ↦ rw (w.nodes-is, w.list-is) (pulled-skip _ _ _ _ _ _ _ _ c.loop-place.invariant (sym w.in-None.ensures))
]

pub returns-clause-leaving : goal.returns-clause-leaving
returns-clause-leaving g c = pulled-all _ _ _ _ _ _ _ c.loop-place.place c.loop-place.invariant (let n = c.follower_count-count.ensures in omega arith)
