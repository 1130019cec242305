use Rattle.std.proofs.Common.{◌<◌, ◌∙◌, ◌++◌, ◌∷◌, [], refl, length, map, sym, ap, subst, arith}
use Rattle.std.specs.Prelude.{Some}
use Rattle.std.proofs.lemmas.List.{length-set}
use Rattle.patch_history.specs.Shelf.{Shelf, slot_at}
use Rattle.patch_index.specs.Index.{fields_of}
use Rattle.patch_store.specs.Meaning.{Store}
use Rattle.patch_store.proofs.Framed.{shelf_refilled, filled_view}
use Rattle.patch_store.proofs.Wholes.{long_left, whole_with}
use Rattle.patch_store.proofs.Removing.{same_left, more_left, left_alike, all_alike}
use Rattle.patch_store.proofs.stores.Store.refill_slot.Goals as goal

pub invariant_of-self : goal.invariant_of-self
invariant_of-self g c = c.self.invariant

pub returns-in_default : goal.returns-in_default
returns-in_default g c = c.self.view_is

pub invariant_of-self-in_default-reserve : goal.invariant_of-self-in_default-reserve
invariant_of-self-in_default-reserve g c =
    let s : Shelf = record {
      extents = c.self.inside.extents;
      slots = c.self.inside.index;
      current = c.self.inside.current;
      last_delete = c.self.inside.last_delete;
      upgrade = c.self.inside.upgrade;
      left = map (λ v. v.items) c.self.inside.left.items;
    } in
    whole_with c.self.inside.geometry s s.slots s.last_delete _ c.self.invariant refl (long_left (λ v. v.items) c.self.inside.left.items c.args.was.now.extent c.reserve.new.self)

pub lay_slot-requires : goal.lay_slot-requires
lay_slot-requires g c = c.requires.fits

pub invariant_of-self-in_default-lay_slot : goal.invariant_of-self-in_default-lay_slot
invariant_of-self-in_default-lay_slot g c =
    let s : Shelf = record {
      extents = c.self.inside.extents;
      slots = c.self.inside.index;
      current = c.self.inside.current;
      last_delete = c.self.inside.last_delete;
      upgrade = c.self.inside.upgrade;
      left = map (λ v. v.items) c.self.inside.left.items;
    } in
    whole_with c.self.inside.geometry s s.slots s.last_delete _ c.self.invariant refl (long_left (λ v. v.items) c.self.inside.left.items c.args.was.now.extent c.reserve.new.self)

pub push_reserved-requires : goal.push_reserved-requires
push_reserved-requires g c = let room = c.in-Ok.ensures.ok in omega (arith, room)

pub fill-requires : goal.fill-requires
fill-requires g c = subst (λ (x : Store). c.args.slot < length x.shelf.slots) (sym c.self.view_is) c.requires.slot

pub invariant_of-self-2 : goal.invariant_of-self-2
invariant_of-self-2 g c =
    let s : Shelf = record {
      extents = c.self.inside.extents;
      slots = c.self.inside.index;
      current = c.self.inside.current;
      last_delete = c.self.inside.last_delete;
      upgrade = c.self.inside.upgrade;
      left = map (λ v. v.items) c.self.inside.left.items;
    } in
    whole_with c.self.inside.geometry s c.fill.new.self s.last_delete _ c.self.invariant
    (ap length c.fill.ensures ∙ length-set c.self.inside.index c.args.slot (Some (fields_of c.args.entry.now)))
    (long_left (λ v. v.items) c.self.inside.left.items c.args.was.now.extent c.push_reserved.new.self)

pub returns-in_default-reserve : goal.returns-in_default-reserve
returns-in_default-reserve g c =
    left_alike _ _ _ c.self.view_is (same_left (λ v. v.items) c.self.inside.left.items c.args.was.now.extent c.reserve.new.self c.in-Some.left.now c.reserve.ensures.items c.in-Some.ensures.value)

pub returns-in_default-lay_slot : goal.returns-in_default-lay_slot
returns-in_default-lay_slot g c =
    all_alike _ _ _ c.lay_slot.new.groups c.lay_slot.new.cache c.self.view_is
    (same_left (λ v. v.items) c.self.inside.left.items c.args.was.now.extent c.reserve.new.self c.in-Some.left.now c.reserve.ensures.items c.in-Some.ensures.value)
    c.in_default-lay_slot.ensures.0 c.in_default-lay_slot.ensures.1

pub returns : goal.returns
returns g c =
    let was = c.args.was.now in
    let made = c.in-Ok-lay_slot.no in
    let s : Shelf = record {
      extents = c.self.inside.extents;
      slots = c.self.inside.index;
      current = c.self.inside.current;
      last_delete = c.self.inside.last_delete;
      upgrade = c.self.inside.upgrade;
      left = map (λ v. v.items) c.self.inside.left.items;
    } in
    let within : was.extent < length c.self.inside.left.items = let l = c.in-Some.ensures.variant.0 refl in let long = c.self.inside.left.ok.0 in omega (arith, l, long) in
    filled_view c.args.writer.now c.args.slot (fields_of c.args.entry.now) c.args.names made _ _ _ c.self.view_is c.in-Ok-lay_slot.ensures
    (shelf_refilled s made c.args.slot (fields_of was) (fields_of c.args.entry.now) c.fill.new.self _ c.fill.ensures
    (ap (λ (x : Store). slot_at x.shelf c.args.slot) c.self.view_is ∙ c.requires.used)
    (more_left (λ v. v.items) c.self.inside.left.items was.extent made c.push_reserved.new.self c.in-Some.left.now within
    (c.push_reserved.ensures.items ∙ ap (λ xs. xs ++ made ∷ []) c.reserve.ensures.items) c.in-Some.ensures.value)) refl
