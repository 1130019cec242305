use Rattle.std.proofs.Common.{take}
use Rattle.patch_model.specs.Runs.{numbers_in}
use Rattle.patch_stacks.specs.Names.{TakesMembers}
use Rattle.patch_stacks.proofs.names.keep_each.Given as goal

abbrev pub invariant-loop-no : goal.invariant-loop-no
invariant-loop-no g l = TakesMembers (take l.no-index l.numbers) (numbers_in l.runs) l.fn.kept.items l.kept.items
