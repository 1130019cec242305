use Rattle.std.proofs.Common.{◌-◌}
use Rattle.patch_stacks.proofs.Landing.{IsLandedTo}
use Rattle.patch_stacks.proofs.stacks.Stack.land_within.Given as goal

abbrev pub invariant-loop-passed : goal.invariant-loop-passed
invariant-loop-passed g l = IsLandedTo l.initial.self l.self l.flying.from (l.flying.to - l.passed)
