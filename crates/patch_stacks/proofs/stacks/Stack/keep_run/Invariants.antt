use Rattle.std.proofs.Common.{◌≡◌, ◌-◌, ◌<◌}
use Rattle.std.specs.List.{range_with_len}
use Rattle.patch_stacks.specs.Names.{KeepsMore}
use Rattle.patch_stacks.proofs.stacks.Stack.keep_run.Given as goal

abbrev pub invariant-loop-no : goal.invariant-loop-no
invariant-loop-no g l = record {
  kept : KeepsMore l.self (range_with_len l.run.first (l.no - l.run.first)) l.fn.kept.items l.kept.items;
  still : l.run.last < l.run.first → l.no ≡ l.run.first;
}
