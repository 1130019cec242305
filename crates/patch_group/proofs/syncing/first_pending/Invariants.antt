use Rattle.std.proofs.Common.{◌≡◌, ◌≤◌, take, length}
use Rattle.std.specs.Prelude.{count_by}
use Rattle.patch_model.specs.Execution.{Execution}
use Rattle.patch_model.specs.State.{entries_of}
use Rattle.patch_cache.specs.Meaning.{IsCacheOf}
use Rattle.patch_plans.specs.Groups.{is_pending}
use Rattle.patch_group.proofs.syncing.first_pending.Given as goal

abbrev pub invariant-loop-at : goal.invariant-loop-at
invariant-loop-at g l = record {
  within : l.at ≤ length l.numbers;
  past : (run : Execution) → IsCacheOf l.cache run → count_by (is_pending (entries_of run)) (take l.from l.numbers) ≡ 0 → count_by (is_pending (entries_of run)) (take l.at l.numbers) ≡ 0;
}
