use Rattle.std.proofs.Common.{◌≡◌, length}
use Rattle.patch_stacks.specs.State.{swept_to}
use Rattle.patch_stacks.proofs.stacks.Stack.take_all.Given as goal

abbrev pub invariant-loop-passed : goal.invariant-loop-passed
invariant-loop-passed g l = (l.self ≡ swept_to l.passed l.initial.self) × (length l.self.classes ≡ length l.initial.self.classes)
