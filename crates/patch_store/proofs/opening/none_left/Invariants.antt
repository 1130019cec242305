use Rattle.std.specs.Prelude.{◌≡◌, [], map, replicate}
use Rattle.patch_store.proofs.opening.none_left.Given as goal

-- none has left the extents so far
abbrev pub invariant-loop : goal.invariant-loop
invariant-loop g l = map (λ v. v.items) l.left.items ≡ replicate l.counter []
