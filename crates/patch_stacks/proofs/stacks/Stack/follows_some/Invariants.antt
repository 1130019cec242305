use Rattle.std.proofs.Common.{◌≡◌, ℕ, ◌+◌, ◌<◌, ◌≤◌, false}
use Rattle.patch_stacks.specs.State.{follows}
use Rattle.patch_stacks.proofs.stacks.Stack.follows_some.Given as goal

abbrev pub invariant-loop-passed : goal.invariant-loop-passed
invariant-loop-passed g l = (m : ℕ) → l.to ≤ m + l.passed → l.from ≤ m → m < l.to → follows l.self l.k m ≡ false
