use Rattle.std.proofs.Common.{sym, arith}
use Rattle.patch_links.proofs.Flights.{raised-none, raised-more, raised-skip, raised-all}
use Rattle.patch_links.proofs.flying.raise_all.Goals.{in-Some, in-None}
use Rattle.patch_links.proofs.flying.raise_all.Goals as goal

pub loop-place-init : goal.loop-place-init
loop-place-init g c = raised-none _ _ _ _

pub loop-place-preserved : goal.loop-place-preserved
loop-place-preserved g c = elim c.match-follower_at.branch [
  | in-Some w ↦ rw (w.nodes-is, w.raise_to.ensures) (raised-more _ _ _ _ _ _ _ c.loop-place.invariant (sym w.in-Some.ensures))
  | in-None w ↦ rw w.nodes-is (raised-skip _ _ _ _ _ _ c.loop-place.invariant (sym w.in-None.ensures))
]

pub returns-clause-counted : goal.returns-clause-counted
returns-clause-counted g c = raised-all _ _ _ _ _ c.loop-place.place c.loop-place.invariant (let n = c.follower_count-count.ensures in omega arith)
