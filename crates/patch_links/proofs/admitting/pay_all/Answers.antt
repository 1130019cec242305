use Rattle.std.proofs.Common.{sym, arith}
use Rattle.patch_links.proofs.Passing.{paid-more, paid-skip, paid-all}
use Rattle.patch_links.proofs.admitting.pay_all.Goals.{in-Some, in-None}
use Rattle.patch_links.proofs.admitting.pay_all.Goals as goal

pub loop-place-preserved : goal.loop-place-preserved
loop-place-preserved g c = elim c.match-follower_at.branch [
  | in-Some w ↦ rw (w.nodes-is, w.list-is, w.pay_to.ensures.changed)
      (paid-more _ _ _ _ _ _ _ _ _ _ c.loop-place.invariant (sym w.in-Some.ensures) (rw w.pay_to.ensures.changed at w.pay_to.ensures.listed) w.pay_to.ensures.done w.pay_to.ensures.count)
  | in-None w ↦ rw (w.nodes-is, w.list-is) (paid-skip _ _ _ _ _ _ _ _ c.loop-place.invariant (sym w.in-None.ensures))
]

pub returns-clause-paid : goal.returns-clause-paid
returns-clause-paid g c = paid-all _ _ _ _ _ _ _ c.loop-place.place c.loop-place.invariant (let n = c.follower_count-count.ensures in omega arith)
