use Rattle.std.proofs.Common.{◌≡◌, ◌≤◌, ◌+◌, ◌++◌, drop, map, length}
use Rattle.std.specs.Prelude.{nat_lt}
use Rattle.std.specs.List.{filter}
use Rattle.patch_graph.proofs.adding.push_tops.Given as goal

abbrev pub invariant-loop-span : goal.invariant-loop-span
invariant-loop-span g l =
    (l.all.items ++ filter (λ n. nat_lt n l.made) (map (λ s. s.no) (drop l.span-index l.spans)) ≡ l.initial.all.items ++ filter (λ n. nat_lt n l.made) (map (λ s. s.no) l.spans))
    × (length l.spans ≤ l.all.room + l.span-index)
