use Rattle.std.proofs.Common.{refl, sym, ◌∙◌, arith}
use Rattle.patch_links.proofs.Places.{same_default}
use Rattle.patch_links.proofs.Rooms.{reserved-gone, reserved-more, reserved-all}
use Rattle.patch_links.proofs.adding.reserve_all.Goals as goal

pub loop-at-init : goal.loop-at-init
loop-at-init g c = (reserved-gone _ _ _ _ _ c.count_gone-at.ensures, refl)

pub loop-at-preserved : goal.loop-at-preserved
loop-at-preserved g c = (
  reserved-more c.args.keys.now.numbers _ c.args.after.now c.args.nodes.now.slots c.loop-at.nodes.slots c.reserve_to.new.nodes.slots c.loop-at.at c.index-after-at.result
      c.loop-at.invariant.0 (omega arith) (sym (c.index-after-at.is ∙ same_default c.args.after.now c.loop-at.at c.index-after-at.result 0 (omega arith)))
      c.in_ok-reserve_to.ensures.roomier c.in_ok-reserve_to.ensures.room,
  c.reserve_to.ensures.next ∙ c.loop-at.invariant.1,
)

pub returns-clause-room : goal.returns-clause-room
returns-clause-room g c = reserved-all c.args.keys.now.numbers _ c.args.after.now c.args.nodes.now.slots c.loop-at.nodes.slots c.loop-at.at c.loop-at.invariant.0 (omega arith)
