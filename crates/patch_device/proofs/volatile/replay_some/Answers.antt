use Rattle.std.proofs.Common.{ℕ, List, ◌∙◌, sym, ap, arith, length, take}
use Rattle.patch_device.specs.Cuts.{writes_among, with_landed}
use Rattle.patch_device.specs.Writes.{one_longer}
use Rattle.patch_device.proofs.Cutting.{among_one, among_none, landed_one, lost_one}
use Rattle.patch_device.proofs.volatile.replay_some.Goals.{in-Some, then-is_said, else-is_said, in_default}
use Rattle.patch_device.proofs.volatile.replay_some.Goals as goal

-- a write more has landed where it is said to, and a sync changes no block
pub loop-event-preserved : goal.loop-event-preserved
loop-event-preserved g c = elim c.match-event.branch [
  | in-Some w ↦ record {
    landed = rw w.blocks-is (elim w.if-is_said.branch [
      | then-is_said v ↦
          rw v.blocks-is
          (rw v.put.ensures (rw v.as_slice.ensures.bytes (landed_one c.args.blocks.now.items c.loop-event.blocks.items c.args.events.now c.loop-event.event-index c.loop-event.place c.event-item.result (w.in-Some.n, w.in-Some.bytes)
          c.args.lands.now c.loop-event-test.true c.event-item.is w.in-Some.is c.loop-event.invariant.place c.loop-event.invariant.landed (sym w.is_said.ensures ∙ v.if-is_said.true))))
      | else-is_said v ↦
          rw v.blocks-is
          (lost_one c.args.blocks.now.items c.loop-event.blocks.items c.args.events.now c.loop-event.event-index c.loop-event.place c.event-item.result (w.in-Some.n, w.in-Some.bytes)
          c.args.lands.now c.loop-event-test.true c.event-item.is w.in-Some.is c.loop-event.invariant.place c.loop-event.invariant.landed (sym w.is_said.ensures ∙ v.if-is_said.false))
    ]);
    place =
        let one = ap length (among_one c.args.events.now c.loop-event.event-index c.event-item.result (w.in-Some.n, w.in-Some.bytes) c.loop-event-test.true c.event-item.is w.in-Some.is) in
        let long = one_longer (writes_among (take c.loop-event.event-index c.args.events.now)) (w.in-Some.n, w.in-Some.bytes) in
        omega (arith, w.place-is, c.loop-event.invariant.place, one, long);
    few = omega (arith, w.place-is, c.loop-event.invariant.few);
  }
  | in_default w ↦
      let one = among_none c.args.events.now c.loop-event.event-index c.event-item.result c.loop-event-test.true c.event-item.is w.in_default.is in
      record {
        landed = rw w.blocks-is (c.loop-event.invariant.landed ∙ ap (λ (ws : List (ℕ × List ℕ)). with_landed c.args.blocks.now.items ws c.args.lands.now) (sym one));
        place = w.place-is ∙ c.loop-event.invariant.place ∙ ap length (sym one);
        few = omega (arith, w.place-is, c.loop-event.invariant.few);
      }
]
