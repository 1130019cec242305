use Rattle.std.proofs.Common.{◌≡◌, map, take}
use Rattle.patch_index.specs.Reporting.{reported, of_slots}
use Rattle.patch_index.specs.Index.{told}
use Rattle.patch_index.proofs.indexes.Index.reports.Given as goal

-- those of the slots so far
abbrev pub invariant-loop-slot : goal.invariant-loop-slot
invariant-loop-slot g l = map reported l.entries.items ≡ of_slots (map told (take l.slot l.self-inside.slots.items))
