use Rattle.std.proofs.Common.{◌≡◌, ◌≤◌, take}
use Rattle.std.specs.Prelude.{count_by, is_none}
use Rattle.patch_c.specs.Tape.{events_of}
use Rattle.patch_c.proofs.tape.Tape.barriers.Given as goal

-- as many of the first so many events are barriers
abbrev pub invariant-loop-at : goal.invariant-loop-at
invariant-loop-at l = (l.count ≡ count_by is_none (take l.at (events_of l.self))) × (l.count ≤ l.at)
