use Rattle.std.specs.Prelude.{ℕ, ◌<◌, List, length, slice_index_or}
use Rattle.patch_cache.specs.Meaning.{IsCacheOf}
use Rattle.patch_frame.specs.Field.{AreBytes}
use Rattle.patch_store.specs.Opening.{unchanged}
use Rattle.patch_store.proofs.opening.blocks_are_bytes.Given as goal

-- the blocks so far hold bytes
abbrev pub invariant-loop-block : goal.invariant-loop-block
invariant-loop-block g l = (blocks : List (List ℕ)) → IsCacheOf l.cache (unchanged blocks) → (k : ℕ) (d : List ℕ) → k < l.block → k < length blocks
    → AreBytes (slice_index_or blocks k d)
