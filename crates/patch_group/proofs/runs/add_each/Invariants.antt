use Rattle.std.proofs.Common.{◌≡◌, ◌++◌, take}
use Rattle.patch_model.specs.Runs.{numbers_in}
use Rattle.patch_group.proofs.runs.add_each.Given as goal

abbrev pub invariant-loop-no : goal.invariant-loop-no
invariant-loop-no g l = numbers_in l.runs.items ≡ numbers_in l.initial.runs.items ++ take l.no-index l.numbers
