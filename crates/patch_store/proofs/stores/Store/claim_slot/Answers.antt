use Rattle.std.proofs.Common.{◌∙◌, refl, map, ap}
use Rattle.patch_history.specs.Shelf.{Shelf, slot_at}
use Rattle.patch_index.specs.Index.{fields_of}
use Rattle.patch_store.specs.Meaning.{Store}
use Rattle.patch_store.proofs.Framed.{shelf_claimed, filled_view}
use Rattle.patch_store.proofs.stores.Store.claim_slot.Goals as goal

pub returns : goal.returns
returns g c =
    let s : Shelf = record {
      extents = c.self.inside.extents;
      slots = c.self.inside.index;
      current = c.self.inside.current;
      last_delete = c.self.inside.last_delete;
      upgrade = c.self.inside.upgrade;
      left = map (λ v. v.items) c.self.inside.left.items;
    } in
    filled_view c.args.writer.now c.args.slot (fields_of c.args.entry.now) c.args.names c.in-Ok.field-0 _ _ _ c.self.view_is c.in-Ok.ensures
    (shelf_claimed s c.in-Ok.field-0 c.args.slot (fields_of c.args.entry.now) c.fill.new.self c.fill.ensures
    (ap (λ (x : Store). slot_at x.shelf c.args.slot) c.self.view_is ∙ c.requires.empty)) refl
