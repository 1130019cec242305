use Rattle.std.proofs.Common.{◌≡◌, take}
use Rattle.patch_model.specs.Runs.{numbers_in}
use Rattle.patch_model.proofs.runs.list_all.Given as goal

abbrev pub invariant-loop-run : goal.invariant-loop-run
invariant-loop-run g l = l.all.items ≡ numbers_in (take l.run-index l.runs)
