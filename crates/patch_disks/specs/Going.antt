-- What a cut of the power leaves of a device while a store goes on with it.
use Rattle.std.specs.Prelude.{ℕ, ◌≡◌, ◌⊎◌, List}
use Rattle.patch_model.specs.Step.{Step}
use Rattle.patch_model.specs.Execution.{followed_by}
use Rattle.patch_model.specs.Crash.{MayLeave}
use Rattle.patch_device.specs.SameDevice.{IsLasting, LeavesOnly}
use Rattle.patch_device.specs.declared.devices.Device.{Ghosts}
use Rattle.patch_cache.specs.Running.{IsCrashSafe}
use Rattle.patch_history.specs.History.{History, IsLegalHistory, execution_of}
use Rattle.patch_store.specs.Meaning.{Store}
use Rattle.patch_store.specs.Opening.{IsOpened, unchanged, at_opening}

-- From one history to a later one of the same store. What a cut at a moment since may have left is a disk that a crash may leave of the
-- execution as it was then, if that was so at first.
pub record GoesSafely {D : Type 0} (g : Ghosts D) (h next : History) (before now : D) : Type 0 where
  pub more : List Step
  pub goes_on : execution_of next ≡ followed_by (execution_of h) more
  pub crash : LeavesOnly g before (MayLeave (execution_of h)) → IsCrashSafe g (execution_of h) (execution_of next) before now

-- whatever was done and however it ended, the store has gone on so to a legal history
pub record EndsSafely {D : Type 0} (g : Ghosts D) (h : History) (before now : D) : Type 0 where
  pub last : History
  pub legal : IsLegalHistory last
  pub goes : GoesSafely g h last before now

-- and so it is from the opening on, if the store was opened on the blocks
abbrev pub EndsOpened : {D : Type 0} → Ghosts D → Store → (blocks : List (List ℕ)) → (before now : D) → Type 0
EndsOpened g store blocks before now =
    (contents : List (List ℕ)) → contents ≡ blocks → (opened : IsOpened contents store) → EndsSafely g (at_opening contents opened.ledger) before now

-- A device that held these blocks: a cut at each moment since left them; or it left a disk that a crash may leave, of the execution
-- as it was then of one legal history over them.
abbrev pub WentSafely : {D : Type 0} → Ghosts D → (contents : List (List ℕ)) → (before now : D) → Type 0
WentSafely g contents before now =
    IsCrashSafe g (unchanged contents) (unchanged contents) before now
    ⊎ ((last : History) × IsLegalHistory last × (last.opening ≡ contents) × IsCrashSafe g (unchanged contents) (execution_of last) before now)

-- what lasted still lasts
abbrev pub StillLasts : {D : Type 0} → Ghosts D → (before now : D) → Type 0
StillLasts g before now = IsLasting g before → IsLasting g now
