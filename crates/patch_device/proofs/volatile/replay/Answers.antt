use Rattle.patch_device.proofs.Cutting.{written_one, synced_one}
use Rattle.patch_device.proofs.volatile.replay.Goals.{in-Some, in_default}
use Rattle.patch_device.proofs.volatile.replay.Goals as goal

-- a write is done, and a sync changes no block
pub loop-event-preserved : goal.loop-event-preserved
loop-event-preserved g c = elim c.match-event.branch [
  | in-Some w ↦
      rw w.blocks-is (rw w.put.ensures (rw w.as_slice.ensures.bytes (written_one c.args.blocks.now.items c.loop-event.blocks.items c.args.events.now c.loop-event.event-index c.event-item.result (w.in-Some.n, w.in-Some.bytes)
      c.loop-event-test.true c.event-item.is w.in-Some.is c.loop-event.invariant)))
  | in_default w ↦
      rw w.blocks-is (synced_one c.args.blocks.now.items c.loop-event.blocks.items c.args.events.now c.loop-event.event-index c.event-item.result c.loop-event-test.true c.event-item.is
      w.in_default.is c.loop-event.invariant)
]
