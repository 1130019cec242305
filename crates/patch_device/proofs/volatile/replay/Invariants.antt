use Rattle.std.proofs.Common.{◌≡◌, take}
use Rattle.patch_device.specs.Cuts.{written_behind}
use Rattle.patch_device.proofs.volatile.replay.Given as goal

-- the writes so far are done
abbrev pub invariant-loop-event : goal.invariant-loop-event
invariant-loop-event g l = l.blocks.items ≡ written_behind l.fn.blocks.items (take l.event-index l.events)
