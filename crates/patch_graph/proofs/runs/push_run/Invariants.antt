use Rattle.std.proofs.Common.{◌≤◌, ◌+◌, min}
use Rattle.patch_model.specs.Runs.{numbers_of}
use Rattle.patch_graph.specs.Naming.{IsNamedBelow, HasWalked}
use Rattle.patch_graph.proofs.runs.push_run.Given as goal

abbrev pub invariant-loop-next : goal.invariant-loop-next
invariant-loop-next g l = record {
  within : l.next ≤ min (l.fn.run.last + 1) l.register.made;
  walked : HasWalked l.register.slots l.register.numbers (IsNamedBelow l.register.made (numbers_of l.fn.run)) l.next l.skip l.initial.all.items l.all.items;
}

abbrev pub decreases-loop-next : goal.decreases-loop-next
decreases-loop-next g l = l.next
