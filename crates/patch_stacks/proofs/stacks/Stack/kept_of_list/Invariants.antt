use Rattle.std.proofs.Common.{take}
use Rattle.patch_stacks.specs.State.{KeepsNames}
use Rattle.patch_stacks.proofs.stacks.Stack.kept_of_list.Given as goal

abbrev pub invariant-loop-no : goal.invariant-loop-no
invariant-loop-no g l = KeepsNames l.self (take l.no-index l.numbers) l.kept.items
