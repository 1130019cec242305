-- How a cached disk stands to a world.
use Rattle.std.specs.Prelude.{◌≡◌, ◌≢◌}
use Rattle.patch_model.specs.declared.refusals.RefusalKind.TheVariants as kind
use Rattle.patch_model.specs.Refusing.{bare}
use Rattle.patch_device.specs.MemDevice.{contents_of}
use Rattle.patch_cache.specs.Asks as cache
use Rattle.patch_cache.specs.Running.{Runs}
use Rattle.patch_cache.specs.Waves.{HoldImages}
use Rattle.patch_group.specs.Asks.{Answer, Plain, Refused}
use Rattle.patch_plans.specs.Order.{AreGroupsOf}
use Rattle.patch_replay.specs.World.{World}
use Rattle.patch_replay.specs.declared.cached_disk.CachedDisk.{CachedDisk}

-- the cache, the flights that are held and the groups stand where the execution has come, and the device holds the disk, with
-- the image of each block that has no write under way
pub record IsAt (core : CachedDisk) (w : World) : Type 0 where
  pub runs : Runs core.cache core.flights w.run
  pub groups : core.groups ≡ w.groups
  pub groups_are : AreGroupsOf w.run w.groups
  pub disk : contents_of core.device ≡ w.disk
  pub images : HoldImages w.run w.disk

-- the answer tells of no want of memory, which is all that a device in memory has for a fault
pub record IsServed (answer : Answer) : Type 0 where
  pub memory : answer ≢ Refused (bare kind.OutOfMemory)
  pub cache_memory : answer ≢ Plain (cache.Refused (bare kind.OutOfMemory))
  pub fault : (told : cache.Answer) → answer ≡ Plain told → cache.IsFault told → ⊥
