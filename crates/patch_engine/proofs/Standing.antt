-- An engine that stands after a step, and whose trace was let go.
use Rattle.std.proofs.Common.{◌≡◌, false, [], refl, sym, subst}
use Rattle.patch_model.specs.Execution.{Execution}
use Rattle.patch_cache.specs.Contents.{Contents, drained}
use Rattle.patch_cache.specs.Meaning.{IsPagedCacheOf}
use Rattle.patch_cache.specs.Flights.{AreFlightsOf}
use Rattle.patch_cache.proofs.SameExecution.{with_trace}
use Rattle.patch_plans.specs.Groups.{Groups}
use Rattle.patch_plans.specs.Order.{AreGroupsOf}
use Rattle.patch_engine.specs.Meaning.{IsEngineOf}
use Rattle.patch_engine.specs.declared.engines.Engine.{Engine}

-- the cache stands without its trace
pub drained_stands : (c : Contents) (run : Execution) → IsPagedCacheOf c run → IsPagedCacheOf (drained c) run
drained_stands c run at = with_trace false c (λ _. []) run [] at

-- and with it the engine, whose trace was let go
pub stands_drained : {A : Type 0} (engine : Engine A) (mid : Contents) (run : Execution) → engine.cache ≡ drained mid → IsPagedCacheOf mid run
    → AreFlightsOf run engine.held.items → AreGroupsOf run engine.groups → IsEngineOf engine run
stands_drained engine mid run is at flights groups = record {
  cache_is = subst (λ (c : Contents). IsPagedCacheOf c run) (sym is) (drained_stands mid run at);
  flights_are = flights;
  groups_are = groups;
  trace_is = subst (λ (c : Contents). c.trace ≡ []) (sym is) refl;
}

-- with other groups of the same patches
pub regrouped : {A : Type 0} (engine : Engine A) (groups : Groups) (run : Execution) → IsEngineOf engine run → AreGroupsOf run groups → IsEngineOf (record engine { groups = groups }) run
regrouped engine groups run at are = record { cache_is = at.cache_is; flights_are = at.flights_are; groups_are = are; trace_is = at.trace_is }
