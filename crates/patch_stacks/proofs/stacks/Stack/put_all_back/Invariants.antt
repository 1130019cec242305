use Rattle.std.proofs.Common.{◌≡◌, length}
use Rattle.patch_stacks.specs.State.{restored_to}
use Rattle.patch_stacks.proofs.stacks.Stack.put_all_back.Given as goal

abbrev pub invariant-loop-at : goal.invariant-loop-at
invariant-loop-at g l = (l.self ≡ restored_to l.at l.initial.self) × (length l.self.classes ≡ length l.initial.self.classes)
