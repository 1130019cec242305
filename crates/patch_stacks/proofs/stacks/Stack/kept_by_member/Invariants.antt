use Rattle.patch_model.specs.Runs.{numbers_in}
use Rattle.patch_stacks.proofs.Keeping.{KeepsUpto}
use Rattle.patch_stacks.proofs.stacks.Stack.kept_by_member.Given as goal

abbrev pub invariant-loop-class : goal.invariant-loop-class
invariant-loop-class g l = KeepsUpto l.self (numbers_in l.runs) l.class-index l.kept.items
