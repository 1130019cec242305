use Rattle.std.proofs.Common.{◌≡◌, ℕ, List, drop, false}
use Rattle.patch_model.specs.Execution.{Execution}
use Rattle.patch_cache.specs.Contents.{Contents}
use Rattle.patch_cache.specs.Meaning.{ShowsBy}
use Rattle.patch_cache.specs.Viewing.{seen_by, block_of, borrow_of, IsViewOf, HasTakenBy}
use Rattle.patch_engine.specs.Showing.{taken_behind}
use Rattle.patch_engine.proofs.reading.take_each.Given as goal

-- what is left to be taken gives what all gives
abbrev pub invariant-loop-no : goal.invariant-loop-no
invariant-loop-no g l = record {
  same_reference : borrow_of l.view ≡ borrow_of l.fn.view;
  same_block : block_of l.view ≡ block_of l.fn.view;
  view : (before : Contents) → IsViewOf before (block_of l.fn.view) (seen_by l.fn.view) → IsViewOf before (block_of l.fn.view) (seen_by l.view);
  so_far : (run : Execution) (names : List ℕ) → HasTakenBy false l.fn.view names run
      → (now : List ℕ) × (taken_behind run (block_of l.fn.view) names l.patches ≡ taken_behind run (block_of l.fn.view) now (drop l.no-index l.patches))
      × ShowsBy false (seen_by l.view) (block_of l.fn.view) now run;
}
