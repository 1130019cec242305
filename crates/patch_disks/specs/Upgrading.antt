-- A store that is made one of version 2.
use Rattle.std.specs.Prelude.{ℕ, ◌≡◌, List, Ok}
use Rattle.patch_model.specs.Step.{Step}
use Rattle.patch_device.specs.declared.devices.Device.{Ghosts}
use Rattle.patch_recovery.specs.Ledger.{Ledger}
use Rattle.patch_recovery.specs.Reading.{reading}
use Rattle.patch_history.specs.Command.{Upgrade, Done}
use Rattle.patch_history.specs.History.{History, IsLegalHistory, execution_of}
use Rattle.patch_store.specs.Flushing.{HoldCached}
use Rattle.patch_store.specs.Opening.{at_opening}
use Rattle.patch_disks.specs.Answering.{with_call, IsSaved}
use Rattle.patch_disks.specs.Going.{GoesSafely, StillLasts}

-- behind the history the upgrade was done by a call, and brought to the disk
pub record HasUpgradedBehind {D : Type 0} (g : Ghosts D) (h : History) (before now : D) : Type 0 where
  pub steps : List Step
  pub last : History
  pub saved : IsSaved (with_call h (0, Upgrade) Done steps) last
  pub legal : IsLegalHistory last
  pub disk : HoldCached (execution_of last) (g.contents now)
  pub goes : GoesSafely g h last before now

-- Done: the blocks read as a store's, and over them one call, the upgrade, was done and brought to the disk. What a cut of the power left
-- on the way is what a crash may leave; and if a cut left just the blocks at first, so it does in the end.
pub record HasUpgraded {D : Type 0} (g : Ghosts D) (contents : List (List ℕ)) (before now : D) : Type 0 where
  pub ledger : Ledger
  pub reads : reading contents ≡ Ok ledger
  pub upgraded : HasUpgradedBehind g (at_opening contents ledger) before now
  pub lasts : StillLasts g before now
