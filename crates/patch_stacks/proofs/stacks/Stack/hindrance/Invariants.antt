use Rattle.patch_stacks.specs.State.{hinders, IsLeastBelow}
use Rattle.patch_stacks.proofs.stacks.Stack.hindrance.Given as goal

abbrev pub invariant-loop-other : goal.invariant-loop-other
invariant-loop-other g l = IsLeastBelow (hinders l.turn l.self l.at) l.self l.other l.least
