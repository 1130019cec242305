use Rattle.std.proofs.Common.{◌≡◌, ◌≤◌, ◌-◌, ◌++◌, length, take, drop}
use Rattle.std.specs.Prelude.{filter, vec_capacity}
use Rattle.patch_links.specs.Joining.{is_neither}
use Rattle.patch_links.proofs.lists.drop_both.Given as goal

abbrev pub invariant-loop-place : goal.invariant-loop-place
invariant-loop-place g l = (take l.place l.keys.items ++ filter (is_neither l.keep l.gone) (drop l.place l.keys.items)
    ≡ take l.first l.initial.keys.items ++ filter (is_neither l.keep l.gone) (drop l.first l.initial.keys.items))
    × (vec_capacity l.keys ≡ vec_capacity l.initial.keys) × (l.place ≤ length l.keys.items)

abbrev pub decreases-loop-place : goal.decreases-loop-place
decreases-loop-place g l = length l.keys.items - l.place
