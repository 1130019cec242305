-- How an upgrade goes on.
use Rattle.std.proofs.Common.{◌≡◌, ℕ, List}
use Rattle.std.specs.Prelude.{Option, Result, Ok, Err, OnOk}
use Rattle.patch_device.specs.SameDevice.{IsSameDevice}
use Rattle.patch_device.specs.declared.devices.Device.{Ghosts}
use Rattle.patch_cache.specs.Joining.{SafeJoin}
use Rattle.patch_history.specs.Command.{Upgrade, Done}
use Rattle.patch_history.specs.History.{History}
use Rattle.patch_store.specs.Meaning.{Store}
use Rattle.patch_store.specs.Opening.{IsOpened, at_opening}
use Rattle.patch_disks.specs.declared.endings.Stop.{Stop}
use Rattle.patch_disks.specs.Answering.{with_call}
use Rattle.patch_disks.specs.Ending.{IsDoneBehind}
use Rattle.patch_disks.specs.Going.{StillLasts}
use Rattle.patch_disks.specs.Running.{IsCalled, HasSaved}
use Rattle.patch_disks.specs.Upgrading.{HasUpgraded, HasUpgradedBehind}
use Rattle.patch_disks.proofs.Coming.{goes_behind_call}
use Rattle.patch_disks.proofs.Going.{goes_alike, goes_both, lasts_alike, lasts_both}

pub upgraded_behind : {D : Type 0} (g : Ghosts D) → SafeJoin g → (h : History) (mid store : Store) (before now : D)
    → (called : IsCalled h (0, Upgrade) Done mid (g.contents before)) → HasSaved g (with_call h (0, Upgrade) Done called.steps) store before now
    → HasUpgradedBehind g h before now
upgraded_behind g join h mid store before now called saved =
    let behind = with_call h (0, Upgrade) Done called.steps in
    record {
      steps = called.steps;
      last = saved.next;
      saved = saved.saved;
      legal = saved.stands.still.represents.legal;
      disk = saved.disk;
      goes = goes_both g join h behind saved.next before before now (goes_behind_call g h (0, Upgrade) Done mid (g.contents before) before called) saved.goes;
    }

-- a store was opened, and upgraded then
pub upgraded_so : {D : Type 0} (g : Ghosts D) → SafeJoin g → (store : Store) (contents : List (List ℕ)) (opened : IsOpened contents store) (before mid now : D)
    → IsSameDevice g before mid → g.moment mid ≡ g.moment before → g.contents mid ≡ g.contents before
    → HasUpgradedBehind g (at_opening contents opened.ledger) mid now → StillLasts g mid now → HasUpgraded g contents before now
upgraded_so g join store contents opened before mid now device none same behind lasts =
    let h = at_opening contents opened.ledger in
    record {
      ledger = opened.ledger;
      reads = opened.reads;
      upgraded = record {
        steps = behind.steps;
        last = behind.last;
        saved = behind.saved;
        legal = behind.legal;
        disk = behind.disk;
        goes = goes_both g join h h behind.last before mid now (goes_alike g h before mid device none) behind.goes;
      };
      lasts = lasts_both g before mid now (lasts_alike g before mid device none same) lasts;
    }

pub each_upgraded : {D T E : Type 0} (g : Ghosts D) → SafeJoin g → (r : Result T E) (store : Store) (contents : List (List ℕ)) (opened : IsOpened contents store)
    (before mid now : D) → IsSameDevice g before mid → g.moment mid ≡ g.moment before → g.contents mid ≡ g.contents before
    → OnOk r (HasUpgradedBehind g (at_opening contents opened.ledger) mid now) → OnOk r (StillLasts g mid now) → OnOk r (HasUpgraded g contents before now)
each_upgraded g join (Ok x) store contents opened before mid now device none same behind lasts =
    upgraded_so g join store contents opened before mid now device none same behind lasts
each_upgraded g join (Err e) store contents opened before mid now device none same behind lasts = tt

-- a command that is done wasn't stopped
pub done_so : {T : Type 0} (r : Result T Stop) (old new : Option (List ℕ)) (Said : Type 0) → IsDoneBehind r old new → OnOk r Said → Said
done_so (Ok x) old new Said done said = said
done_so (Err why) old new Said done said = absurd done
