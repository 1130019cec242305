use Rattle.std.proofs.Common.{◌≡◌, ◌≤◌, length, take}
use Rattle.patch_device.specs.Cuts.{with_landed, writes_among}
use Rattle.patch_device.proofs.volatile.replay_some.Given as goal

-- of the writes so far those are done that land
abbrev pub invariant-loop-event : goal.invariant-loop-event
invariant-loop-event g l = record {
  landed : l.blocks.items ≡ with_landed l.fn.blocks.items (writes_among (take l.event-index l.events)) l.lands;
  place : l.place ≡ length (writes_among (take l.event-index l.events));
  few : l.place ≤ l.event-index;
}
