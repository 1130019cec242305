use Rattle.std.proofs.Common.{ℕ, ◌<◌, ◌≤◌, ◌≡◌, true}
use Rattle.patch_model.specs.Entry.{is_among}
use Rattle.patch_stacks.specs.State.{class_at}
use Rattle.patch_stacks.proofs.stacks.Stack.lowest_for.Given as goal

abbrev pub invariant-loop-class : goal.invariant-loop-class
invariant-loop-class g l = (i n : ℕ) → i < l.class-index → is_among (class_at l.self i).members n ≡ true → l.lowest ≤ n
