-- A cache that stands for the same execution.
use Rattle.std.proofs.Common.{ℕ, Bool, List}
use Rattle.patch_model.specs.Execution.{Execution}
use Rattle.patch_model.specs.Step.{Step}
use Rattle.patch_cache.specs.Contents.{Contents}
use Rattle.patch_cache.specs.Meaning.{Shows}

-- what the trace holds is nothing to it
pub with_trace : (whole : Bool) (c : Contents) (taken : ℕ → List ℕ) (run : Execution) (trace : List Step) → Shows whole c taken run → Shows whole (record c { trace = trace }) taken run
with_trace whole c taken run trace s =
    record { legal = s.legal; count = s.count; blocks = s.blocks; absent = s.absent; resident = s.resident; writes = s.writes; graph = s.graph; sends = s.sends; live = s.live }
