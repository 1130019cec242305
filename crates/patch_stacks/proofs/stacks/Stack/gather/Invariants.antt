use Rattle.std.proofs.Common.{◌-◌, ◌≤◌}
use Rattle.patch_stacks.specs.Rearranged.{IsGathered}
use Rattle.patch_stacks.proofs.stacks.Stack.gather.Given as goal

abbrev pub invariant-loop-k : goal.invariant-loop-k
invariant-loop-k g l = IsGathered l.initial.self l.self l.low l.front l.k × (l.k ≤ l.high)

abbrev pub decreases-loop-k : goal.decreases-loop-k
decreases-loop-k g l = l.high - l.k
