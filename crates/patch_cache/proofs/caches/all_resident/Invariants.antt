use Rattle.std.proofs.Common.{◌≡◌, ◌++◌, List, ℕ, length}
use Rattle.patch_cache.proofs.Opening.{AreFilled}
use Rattle.patch_cache.proofs.caches.all_resident.Given as goal

-- so many blocks are done, and the others are left
abbrev pub invariant-loop-block : goal.invariant-loop-block
invariant-loop-block g l =
    (goal.iterator-loop-block g).can_next l.block-iterator
    × (goal.iterator-loop-block g).is_finite l.block-iterator
    × ((done : List (List ℕ)) × (done ++ l.block-iterator.rest.items ≡ l.fn.blocks.items) × (l.number ≡ length done) × AreFilled l.rows.items done (length l.fn.blocks.items))
