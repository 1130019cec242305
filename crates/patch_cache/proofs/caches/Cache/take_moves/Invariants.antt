use Rattle.std.proofs.Common.{◌≡◌, ℕ, Bool, List, drop}
use Rattle.patch_model.specs.Execution.{Execution}
use Rattle.patch_cache.specs.Contents.{Contents, is_resident}
use Rattle.patch_cache.specs.Meaning.{ShowsBy}
use Rattle.patch_cache.specs.Viewing.{with_moves, IsViewOf}
use Rattle.patch_cache.proofs.caches.Cache.take_moves.Given as goal

-- what is left to do gives what all of it gives
abbrev pub invariant-loop-step : goal.invariant-loop-step
invariant-loop-step g l = record {
  resident : (n : ℕ) → is_resident l.self n ≡ is_resident l.fn.self n;
  trace : l.self.trace ≡ l.fn.self.trace;
  view : (before : Contents) → IsViewOf before l.block l.fn.self → IsViewOf before l.block l.self;
  so_far : (whole : Bool) (run : Execution) (names : List ℕ) → ShowsBy whole l.fn.self l.block names run
      → (now : List ℕ) × (with_moves run l.block names l.moves ≡ with_moves run l.block now (drop l.step-index l.moves)) × ShowsBy whole l.self l.block now run;
}
