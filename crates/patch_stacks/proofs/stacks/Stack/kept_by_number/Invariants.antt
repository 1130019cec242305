use Rattle.std.proofs.Common.{take, []}
use Rattle.patch_model.specs.Runs.{numbers_in}
use Rattle.patch_stacks.specs.Names.{KeepsMore}
use Rattle.patch_stacks.proofs.stacks.Stack.kept_by_number.Given as goal

abbrev pub invariant-loop-run : goal.invariant-loop-run
invariant-loop-run g l = KeepsMore l.self (numbers_in (take l.run-index l.runs)) [] l.kept.items
