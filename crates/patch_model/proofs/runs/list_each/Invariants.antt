use Rattle.std.proofs.Common.{◌≡◌, ◌-◌, ◌+◌, ◌++◌, ◌≤◌}
use Rattle.std.specs.Prelude.{vec_len, vec_capacity}
use Rattle.std.specs.List.{range_with_len}
use Rattle.patch_model.proofs.runs.list_each.Given as goal

abbrev pub invariant-loop-no : goal.invariant-loop-no
invariant-loop-no g l = record {
  listed : l.listed.items ≡ l.fn.listed.items ++ range_with_len l.first (l.no - l.first);
  room : vec_len l.listed + (l.end - l.no) ≤ vec_capacity l.listed;
}
