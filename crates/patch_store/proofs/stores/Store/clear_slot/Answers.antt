use Rattle.std.proofs.Common.{◌<◌, ◌∙◌, ◌++◌, ◌∷◌, [], refl, append-nil, length, map, sym, ap, subst, arith}
use Rattle.std.specs.Prelude.{Some, None}
use Rattle.std.proofs.lemmas.List.{length-set}
use Rattle.patch_history.specs.Shelf.{Shelf}
use Rattle.patch_index.specs.Index.{fields_of, told}
use Rattle.patch_store.specs.Meaning.{Store}
use Rattle.patch_store.proofs.Wholes.{long_left, whole_with}
use Rattle.patch_store.proofs.Removing.{shelf_cleared, cleared_view, same_left, more_left, left_alike, all_alike}
use Rattle.patch_store.proofs.stores.Store.clear_slot.Goals as goal

pub returns-in_default : goal.returns-in_default
returns-in_default g c = refl

pub invariant_of-self : goal.invariant_of-self
invariant_of-self g c = c.self.invariant

pub returns-in_default-get_mut : goal.returns-in_default-get_mut
returns-in_default-get_mut g c = c.self.view_is

pub invariant_of-self-in_default-reserve : goal.invariant_of-self-in_default-reserve
invariant_of-self-in_default-reserve g c =
    let s : Shelf = record {
      extents = c.self.inside.extents;
      slots = c.self.inside.index;
      current = c.self.inside.current;
      last_delete = c.self.inside.last_delete;
      upgrade = c.self.inside.upgrade;
      left = map (λ v. v.items) c.self.inside.left.items;
    } in
    whole_with c.self.inside.geometry s s.slots s.last_delete _ c.self.invariant refl (long_left (λ v. v.items) c.self.inside.left.items c.in-Some.entry.extent c.reserve.new.self)

pub invariant_of-self-in_default-lay_slot : goal.invariant_of-self-in_default-lay_slot
invariant_of-self-in_default-lay_slot g c =
    let s : Shelf = record {
      extents = c.self.inside.extents;
      slots = c.self.inside.index;
      current = c.self.inside.current;
      last_delete = c.self.inside.last_delete;
      upgrade = c.self.inside.upgrade;
      left = map (λ v. v.items) c.self.inside.left.items;
    } in
    whole_with c.self.inside.geometry s s.slots s.last_delete _ c.self.invariant refl (long_left (λ v. v.items) c.self.inside.left.items c.in-Some.entry.extent c.reserve.new.self)

pub push_reserved-requires : goal.push_reserved-requires
push_reserved-requires g c = let room = c.in-Ok.ensures.ok in omega (arith, room)

pub clear-requires : goal.clear-requires
clear-requires g c = subst (λ (x : Store). c.args.slot < length x.shelf.slots) (sym c.self.view_is) c.requires

pub invariant_of-self-2 : goal.invariant_of-self-2
invariant_of-self-2 g c =
    let s : Shelf = record {
      extents = c.self.inside.extents;
      slots = c.self.inside.index;
      current = c.self.inside.current;
      last_delete = c.self.inside.last_delete;
      upgrade = c.self.inside.upgrade;
      left = map (λ v. v.items) c.self.inside.left.items;
    } in
    whole_with c.self.inside.geometry s c.clear.new.self (Some c.in-Ok-lay_slot.no) _ c.self.invariant
    (ap length c.clear.ensures ∙ length-set c.self.inside.index c.args.slot None)
    (long_left (λ v. v.items) c.self.inside.left.items c.in-Some.entry.extent c.push_reserved.new.self)

pub returns-in_default-reserve : goal.returns-in_default-reserve
returns-in_default-reserve g c =
    left_alike _ _ _ c.self.view_is (same_left (λ v. v.items) c.self.inside.left.items c.in-Some.entry.extent c.reserve.new.self c.in-Some-get_mut.left.now c.reserve.ensures.items c.in-Some-get_mut.ensures.value)

pub returns-in_default-lay_slot : goal.returns-in_default-lay_slot
returns-in_default-lay_slot g c =
    all_alike _ _ _ c.lay_slot.new.groups c.lay_slot.new.cache c.self.view_is
    (same_left (λ v. v.items) c.self.inside.left.items c.in-Some.entry.extent c.reserve.new.self c.in-Some-get_mut.left.now c.reserve.ensures.items c.in-Some-get_mut.ensures.value)
    c.in_default-lay_slot.ensures.0 c.in_default-lay_slot.ensures.1

pub returns : goal.returns
returns g c =
    let e = c.in-Some.entry.extent in
    let s : Shelf = record {
      extents = c.self.inside.extents;
      slots = c.self.inside.index;
      current = c.self.inside.current;
      last_delete = c.self.inside.last_delete;
      upgrade = c.self.inside.upgrade;
      left = map (λ v. v.items) c.self.inside.left.items;
    } in
    let within : e < length c.self.inside.left.items = let l = c.in-Some-get_mut.ensures.variant.0 refl in let long = c.self.inside.left.ok.0 in omega (arith, l, long) in
    cleared_view c.args.writer c.args.slot c.in-Ok-lay_slot.no c.of_some-names.result _ _ _ c.self.view_is (c.of_some-names.ensures ∙ append-nil _) c.in-Ok-lay_slot.ensures
    (shelf_cleared s c.in-Ok-lay_slot.no c.args.slot (fields_of c.in-Some.entry) c.clear.new.self _ c.clear.ensures (sym c.entry.ensures ∙ ap told c.in-Some.is)
    (more_left (λ v. v.items) c.self.inside.left.items e c.in-Ok-lay_slot.no c.push_reserved.new.self c.in-Some-get_mut.left.now within
    (c.push_reserved.ensures.items ∙ ap (λ xs. xs ++ c.in-Ok-lay_slot.no ∷ []) c.reserve.ensures.items) c.in-Some-get_mut.ensures.value)) refl
