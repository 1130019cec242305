use Rattle.std.proofs.Common.{◌∙◌, sym, arith}
use Rattle.patch_device.proofs.Cutting.{counted_one, counted_none}
use Rattle.patch_device.proofs.volatile.count_writes.Goals.{then-is_some, else-is_some}
use Rattle.patch_device.proofs.volatile.count_writes.Goals as goal

-- one more where the event is a write
pub loop-event-preserved : goal.loop-event-preserved
loop-event-preserved g c = elim c.if-is_some.branch [
  | then-is_some w ↦
      let one = counted_one c.args.events.now c.loop-event.event-index c.event-item.result c.loop-event-test.true c.event-item.is (sym c.is_some.ensures ∙ w.if-is_some.true) in
      record { counted = omega (arith, one, w.count-is, c.loop-event.invariant.counted); few = omega (arith, w.count-is, c.loop-event.invariant.few) }
  | else-is_some w ↦
      let none = counted_none c.args.events.now c.loop-event.event-index c.event-item.result c.loop-event-test.true c.event-item.is (sym c.is_some.ensures ∙ w.if-is_some.false) in
      record { counted = omega (arith, none, w.count-is, c.loop-event.invariant.counted); few = omega (arith, w.count-is, c.loop-event.invariant.few) }
]
