use Rattle.std.proofs.Common.{◌≡◌, ◌≤◌, ◌+◌, ◌++◌, drop, length}
use Rattle.std.specs.Prelude.{nat_lt}
use Rattle.std.specs.List.{filter}
use Rattle.patch_graph.proofs.adding.push_numbers.Given as goal

abbrev pub invariant-loop-no : goal.invariant-loop-no
invariant-loop-no g l =
    (l.all.items ++ filter (λ n. nat_lt n l.made) (drop l.no-index l.numbers) ≡ l.initial.all.items ++ filter (λ n. nat_lt n l.made) l.numbers)
    × (length l.numbers ≤ l.all.room + l.no-index)
