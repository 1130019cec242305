use Rattle.std.proofs.Common.{◌≡◌, ◌-◌, ◌++◌, ◌<◌, filter}
use Rattle.std.specs.List.{range_with_len}
use Rattle.patch_model.specs.Execution.{Execution}
use Rattle.patch_model.specs.State.{entries_of}
use Rattle.patch_cache.specs.Meaning.{IsCacheOf}
use Rattle.patch_plans.specs.Groups.{is_pending}
use Rattle.patch_group.proofs.waiting.wait_for_run.Given as goal

abbrev pub invariant-loop-no : goal.invariant-loop-no
invariant-loop-no g l = record {
  listed : (run : Execution) → IsCacheOf l.cache run
      → l.waiting.items ≡ l.fn.waiting.items ++ filter (is_pending (entries_of run)) (range_with_len l.numbers.first (l.no - l.numbers.first));
  still : l.numbers.last < l.numbers.first → l.no ≡ l.numbers.first;
}
