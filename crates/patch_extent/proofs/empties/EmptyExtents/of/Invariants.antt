use Rattle.std.proofs.Common.{◌≡◌, ◌≤◌, length}
use Rattle.patch_plans.specs.Empties.{passing}
use Rattle.patch_plans.specs.Extents.{is_empty_in}
use Rattle.patch_extent.proofs.empties.EmptyExtents.of.Given as goal

-- the empty ones so far
abbrev pub invariant-loop-extent : goal.invariant-loop-extent
invariant-loop-extent g l = (l.numbers ≡ passing (is_empty_in l.each) l.extent) × (length l.numbers ≤ l.extent)
