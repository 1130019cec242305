use Rattle.std.proofs.Common.{◌≡◌, ◌≤◌, length, take}
use Rattle.patch_device.specs.Cuts.{writes_among}
use Rattle.patch_device.proofs.volatile.count_writes.Given as goal

-- the writes so far are counted
abbrev pub invariant-loop-event : goal.invariant-loop-event
invariant-loop-event g l = record { counted : l.count ≡ length (writes_among (take l.event-index l.events)); few : l.count ≤ l.event-index }
