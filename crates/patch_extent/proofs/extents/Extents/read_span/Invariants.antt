use Rattle.std.proofs.Common.{◌≡◌}
use Rattle.patch_model.specs.Execution.{Execution}
use Rattle.patch_cache.specs.Meaning.{IsCacheOf}
use Rattle.patch_plans.specs.Meaning.{AreExtentsOf}
use Rattle.patch_extent.specs.Answers.{cached_bytes}
use Rattle.patch_extent.proofs.Spans.{covered}
use Rattle.patch_extent.proofs.extents.Extents.read_span.Given as goal

-- the bytes of the first blocks touched
abbrev pub invariant-loop-k : goal.invariant-loop-k
invariant-loop-k g l =
    (run : Execution) → IsCacheOf l.cache run → AreExtentsOf l.self run
    → l.bytes.items ≡ cached_bytes l.self.geometry run l.place.extent l.place.offset (covered l.place.offset l.place.len l.k)
