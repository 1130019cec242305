use Rattle.std.proofs.Common.{◌∙◌, map, sym, ap}
use Rattle.patch_frame.specs.declared.geometries.Geometry.{Geometry}
use Rattle.patch_history.specs.Shelf.{Shelf}
use Rattle.patch_store.specs.Meaning.{Store}
use Rattle.patch_store.specs.Renewing.{renewed_shelf}
use Rattle.patch_store.proofs.Renewed.{lists_cleared, shelf_is, whole_anew}
use Rattle.patch_store.proofs.stores.Store.forget_patches.Goals as goal

pub invariant_of-self : goal.invariant_of-self
invariant_of-self g c =
    let s : Shelf = record {
      extents = c.self.inside.extents;
      slots = c.self.inside.index;
      current = c.self.inside.current;
      last_delete = c.self.inside.last_delete;
      upgrade = c.self.inside.upgrade;
      left = map (λ v. v.items) c.self.inside.left.items;
    } in
    whole_anew c.self.inside.geometry s c.renew.new.self c.first_open-self-inside.result _ c.self.invariant c.renew.ensures c.first_open-self-inside.ensures.known
    (lists_cleared (λ v. v.items) c.self.inside.left.len c.self.inside.geometry.extents c.as_mut_slice.result.now c.clear_each.new.left c.self.inside.left.items
    c.as_mut_slice.ensures.value c.as_mut_slice.ensures.len c.clear_each.ensures
    (c.self.invariant.1.left ∙ sym (ap (λ (x : Geometry). x.extents) c.self.invariant.0)))

pub returns-clause-shelf : goal.returns-clause-shelf
returns-clause-shelf g c =
    shelf_is c.self.inside.geometry c.self.inside.extents c.renew.new.self c.self.inside.index c.first_open-self-inside.result _ c.self.invariant.0 c.renew.ensures
    c.first_open-self-inside.ensures.value
    (lists_cleared (λ v. v.items) c.self.inside.left.len c.self.inside.geometry.extents c.as_mut_slice.result.now c.clear_each.new.left c.self.inside.left.items
    c.as_mut_slice.ensures.value c.as_mut_slice.ensures.len c.clear_each.ensures
    (c.self.invariant.1.left ∙ sym (ap (λ (x : Geometry). x.extents) c.self.invariant.0)))
    ∙ ap (λ (s : Store). renewed_shelf s.shelf) c.self.view_is
