use Rattle.std.proofs.Common.{◌≡◌, ◌≤◌, ℕ, true, take}
use Rattle.patch_model.specs.Entry.{is_among}
use Rattle.patch_model.specs.Runs.{numbers_in}
use Rattle.patch_numbers.proofs.runs.run_around.Given as goal

abbrev pub invariant-loop-run : goal.invariant-loop-run
invariant-loop-run l = (n : ℕ) → is_among (numbers_in (take l.run-index l.runs)) n ≡ true → (l.first ≤ n) × (n ≤ l.last)
