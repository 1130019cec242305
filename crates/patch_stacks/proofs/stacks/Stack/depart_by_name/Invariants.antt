use Rattle.std.proofs.Common.{◌≡◌, take}
use Rattle.patch_stacks.specs.State.{with_departed}
use Rattle.patch_stacks.proofs.stacks.Stack.depart_by_name.Given as goal

abbrev pub invariant-loop-name : goal.invariant-loop-name
invariant-loop-name g l = l.self ≡ with_departed l.initial.self (take l.name-index l.names)
