use Rattle.std.proofs.Common.{◌∙◌, refl, ap, map, subst}
use Rattle.patch_cache.specs.Meaning.{IsCacheOf}
use Rattle.patch_plans.specs.Extents.{Extents}
use Rattle.patch_history.specs.Shelf.{Shelf}
use Rattle.patch_store.specs.Meaning.{Store}
use Rattle.patch_store.proofs.Emptied.{reset_alike}
use Rattle.patch_store.proofs.Wholes.{whole_on}
use Rattle.patch_store.proofs.Widening.{shelf_widened, widened_view}
use Rattle.patch_store.proofs.stores.Store.widen.Goals as goal

pub upgrade-requires : goal.upgrade-requires
upgrade-requires g c = record {
  version = ap (λ (x : Store). x.shelf.extents.geometry.format) c.self.view_is ∙ c.requires.version;
  room = λ run stands. c.requires.room run (subst (λ (x : Store). IsCacheOf x.cache run) c.self.view_is stands);
}

pub returns-in_default : goal.returns-in_default
returns-in_default g c = reset_alike _ _ c.upgrade.new.self c.upgrade.new.cache _ c.self.view_is c.in_default.ensures.0 c.in_default.ensures.1 refl

pub invariant_of-self : goal.invariant_of-self
invariant_of-self g c =
    let s : Shelf = record {
      extents = c.self.inside.extents;
      slots = c.self.inside.index;
      current = c.self.inside.current;
      last_delete = c.self.inside.last_delete;
      upgrade = c.self.inside.upgrade;
      left = map (λ v. v.items) c.self.inside.left.items;
    } in
    whole_on c.self.inside.geometry s c.upgrade.new.self s.current s.left c.self.invariant (ap (λ (e : Extents). e.geometry) c.in_default.ensures.0)
    c.self.invariant.1.current refl

pub returns : goal.returns
returns g c =
    let s : Shelf = record {
      extents = c.self.inside.extents;
      slots = c.self.inside.index;
      current = c.self.inside.current;
      last_delete = c.self.inside.last_delete;
      upgrade = c.self.inside.upgrade;
      left = map (λ v. v.items) c.self.inside.left.items;
    } in
    widened_view _ _ _ c.in-Ok.no c.self.view_is c.in-Ok.ensures refl (shelf_widened s c.upgrade.new.self c.in-Ok.no c.in-Ok.ensures.extents_are) refl
