use Rattle.patch_model.specs.Runs.{numbers_in}
use Rattle.patch_group.proofs.Uniting.{AreListed}
use Rattle.patch_group.proofs.runs.rising_runs.Given as goal

abbrev pub invariant-loop-run : goal.invariant-loop-run
invariant-loop-run g l = AreListed l.run-items l.run-index (numbers_in l.all.items) l.next
