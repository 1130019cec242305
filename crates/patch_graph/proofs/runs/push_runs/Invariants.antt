use Rattle.std.proofs.Common.{take}
use Rattle.patch_model.specs.Runs.{numbers_in}
use Rattle.patch_graph.specs.Naming.{IsNamedBelow, HasTaken}
use Rattle.patch_graph.proofs.runs.push_runs.Given as goal

abbrev pub invariant-loop-run : goal.invariant-loop-run
invariant-loop-run g l = HasTaken l.register.slots l.register.numbers (IsNamedBelow l.register.made (numbers_in (take l.run-index l.runs))) l.initial.all.items l.all.items
