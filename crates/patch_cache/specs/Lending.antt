-- How a cache is lent.
use Rattle.std.specs.Prelude.{Result, ◌≡◌}
use Rattle.std.specs.Borrow.{RestsIfErr, MutBor, Fml, RattleType}
use Rattle.std.specs.declared.alloc.Allocator.{Ghosts}
use Rattle.patch_cache.specs.declared.views.CacheView.{CacheView}
use Rattle.patch_cache.specs.declared.refusals.ViewRefusal.{ViewRefusal}
use Rattle.patch_cache.specs.contracts.caches.Cache.{the_row}
use Rattle.patch_cache.specs.Contents.{Contents}

module _ (A : RattleType) (alloc : Ghosts A.Denot) where
  -- at a refusal the cache ends as it was; else it ends as the view leaves it
  abbrev pub RestsView : MutBor Contents → Result (CacheView A.Denot) ViewRefusal → Fml
  RestsView c r = RestsIfErr (the_row A alloc) c (λ v. v.cache.ghost_name) r (λ n. n ≡ c.now)
