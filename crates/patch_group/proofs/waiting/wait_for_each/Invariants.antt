use Rattle.std.proofs.Common.{◌≡◌, ◌++◌, take, filter}
use Rattle.patch_model.specs.Execution.{Execution}
use Rattle.patch_model.specs.State.{entries_of}
use Rattle.patch_cache.specs.Meaning.{IsCacheOf}
use Rattle.patch_plans.specs.Groups.{is_pending}
use Rattle.patch_model.specs.Runs.{numbers_in}
use Rattle.patch_group.proofs.waiting.wait_for_each.Given as goal

abbrev pub invariant-loop-run : goal.invariant-loop-run
invariant-loop-run g l = (run : Execution) → IsCacheOf l.cache run → l.waiting.items ≡ l.fn.waiting.items ++ filter (is_pending (entries_of run)) (numbers_in (take l.run-index l.runs))
