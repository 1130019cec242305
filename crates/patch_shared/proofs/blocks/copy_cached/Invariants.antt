use Rattle.std.proofs.Common.{◌≡◌, map}
use Rattle.std.specs.List.{range_with_len}
use Rattle.patch_model.specs.Execution.{Execution}
use Rattle.patch_model.specs.History.{cached, history_of}
use Rattle.patch_cache.specs.Meaning.{IsCacheOf}
use Rattle.patch_shared.proofs.blocks.copy_cached.Given as goal

-- the blocks so far are copied
abbrev pub invariant-loop-n : goal.invariant-loop-n
invariant-loop-n g l =
    (run : Execution) → IsCacheOf l.cache run → l.blocks.items ≡ map (λ block. cached (history_of run block)) (range_with_len 0 l.n)
