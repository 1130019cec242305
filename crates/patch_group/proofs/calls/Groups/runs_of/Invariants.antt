use Rattle.std.proofs.Common.{◌≡◌, take}
use Rattle.std.specs.List.{flat_map}
use Rattle.patch_plans.specs.Groups.{patches_of}
use Rattle.patch_model.specs.Runs.{numbers_in}
use Rattle.patch_group.proofs.calls.Groups.runs_of.Given as goal

abbrev pub invariant-loop-group : goal.invariant-loop-group
invariant-loop-group g l = numbers_in l.runs.items ≡ flat_map (patches_of l.self) (take l.group-index l.groups)
