use Rattle.std.specs.Prelude.{map}
use Rattle.patch_store.proofs.Renewed.{AreCleared}
use Rattle.patch_store.proofs.renewing.clear_each.Given as goal

-- the first lists so far
abbrev pub invariant-loop-patches : goal.invariant-loop-patches
invariant-loop-patches g l = AreCleared l.patches-index (map (λ v. v.items) l.fn.left) (map (λ v. v.items) l.left)
