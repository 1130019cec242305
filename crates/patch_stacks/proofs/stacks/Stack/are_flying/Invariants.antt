use Rattle.std.proofs.Common.{◌≡◌, ℕ, ◌<◌, ◌≤◌, true}
use Rattle.patch_stacks.specs.State.{class_at}
use Rattle.patch_stacks.proofs.stacks.Stack.are_flying.Given as goal

abbrev pub invariant-loop-at : goal.invariant-loop-at
invariant-loop-at g l = (i : ℕ) → l.fn.places.from ≤ i → i < l.at → (class_at l.self i).flying ≡ true
