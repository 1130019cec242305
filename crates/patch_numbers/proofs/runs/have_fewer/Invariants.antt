use Rattle.std.proofs.Common.{◌≡◌, ◌+◌, length, take}
use Rattle.patch_model.specs.Runs.{numbers_in}
use Rattle.patch_numbers.proofs.runs.have_fewer.Given as goal

abbrev pub invariant-loop-run : goal.invariant-loop-run
invariant-loop-run l = length (numbers_in (take l.run-index l.runs)) + l.left ≡ l.than
