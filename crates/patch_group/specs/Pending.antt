-- Below which number no patch is pending.
use Rattle.std.specs.Prelude.{ℕ, false, ◌≡◌, ◌<◌}
use Rattle.patch_model.specs.Execution.{Execution}
use Rattle.patch_model.specs.State.{entries_of}
use Rattle.patch_plans.specs.Groups.{is_pending}

-- no patch below this number is in memory or in flight
abbrev pub NonePendingBelow : Execution → ℕ → Type 0
NonePendingBelow run from = (n : ℕ) → n < from → is_pending (entries_of run) n ≡ false
