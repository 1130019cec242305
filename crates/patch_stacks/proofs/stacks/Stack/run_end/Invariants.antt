use Rattle.std.proofs.Common.{◌≡◌, ℕ, ◌<◌, ◌≤◌, false}
use Rattle.patch_stacks.specs.State.{follows}
use Rattle.patch_stacks.proofs.stacks.Stack.run_end.Given as goal

abbrev pub invariant-loop-at : goal.invariant-loop-at
invariant-loop-at g l = (j m : ℕ) → l.k ≤ j → j < l.at → l.front ≤ m → m < l.k → follows l.self j m ≡ false
