use Rattle.std.proofs.Common.{◌≡◌, ◌*◌, ◌-◌, ◌≤◌, length, take}
use Rattle.patch_commands.specs.Value.{value_of}
use Rattle.patch_commands.proofs.values.lay.Given as goal

-- the room begins with the piece, as often as it is laid by now
abbrev pub invariant-loop-done : goal.invariant-loop-done
invariant-loop-done l =
    (1 ≤ l.done) × (l.done ≤ l.times) × (take (length l.piece * l.done) l.room ≡ value_of l.piece l.done)

abbrev pub decreases-loop-done : goal.decreases-loop-done
decreases-loop-done l = l.times - l.done
