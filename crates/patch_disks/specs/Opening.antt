-- How the store of a device is opened.
use Rattle.std.specs.Prelude.{ℕ, ◌≡◌, List, [], IsTrue, IsFalse}
use Rattle.patch_device.specs.FileDevice.{has_barriers}
use Rattle.patch_device.specs.declared.files.FileDevice.{FileDevice}
use Rattle.patch_cache.specs.Contents.{Contents}
use Rattle.patch_cache.specs.Meaning.{IsCacheOf}
use Rattle.patch_store.specs.Meaning.{Store}
use Rattle.patch_store.specs.Opening.{unchanged, IsOpened}
use Rattle.patch_disks.specs.declared.opening.Barriers.{Barriers}
use Rattle.patch_disks.specs.declared.opening.Barriers.TheVariants.{On, Off}

-- the cache of some blocks, to which nothing has happened
pub record IsUntouched (cache : Contents) : Type 0 where
  pub first : List (List ℕ)
  pub cache_is : IsCacheOf cache (unchanged first)
  pub no_steps : cache.trace ≡ []

-- a store that was opened on some blocks, and has done nothing since
pub record IsUnused (s : Store) : Type 0 where
  pub blocks : List (List ℕ)
  pub opened : IsOpened blocks s
  pub no_steps : s.cache.trace ≡ []

-- a file's syncs are done, or passed over, as it was asked for
abbrev pub IsUnder : {F : Type 0} → Barriers → FileDevice F → Type 0
IsUnder On device = IsTrue (has_barriers device)
IsUnder Off device = IsFalse (has_barriers device)
