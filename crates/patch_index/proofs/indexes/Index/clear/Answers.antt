use Rattle.std.proofs.Common.{◌≡◌, ◌<◌, ◌∙◌, length, map, get_or, set, sym, ap, subst, arith}
use Rattle.std.specs.Prelude.{Some, None, slice_set}
use Rattle.std.specs.List.{insert, remove}
use Rattle.std.proofs.lemmas.List.{length-map, length-set, map-set, set-get_or}
use Rattle.patch_index.specs.Index.{fields_of, told}
use Rattle.patch_index.specs.Sums.{without_frame}
use Rattle.patch_index.proofs.SlotChanges.{among_used, cleared, same_places, same_orders}
use Rattle.patch_index.proofs.Slots.{item_is, told_at}
use Rattle.patch_index.proofs.Summing.{enough, summed_less, same_sums}
use Rattle.patch_index.proofs.indexes.Index.clear.Goals as goal

pub returns-in_default : goal.returns-in_default
returns-in_default g c =
    let items = c.self.inside.slots.items in
    let slots = map told items in
    let s = c.args.slot in
    let low = c.requires in
    let long : length items ≡ length c.args.self.now = sym (length-map items told) ∙ ap length c.self.view_is in
    let within : s < length items = omega (arith, low, long) in
    let none : get_or c.args.self.now s None ≡ None =
    ap (λ v. get_or v s None) (sym c.self.view_is) ∙ told_at items s within ∙ ap told (item_is items s c.index.result.now within c.index.ensures ∙ c.in_default.is) in
    sym (ap (set c.args.self.now s) (sym none) ∙ set-get_or c.args.self.now s None)

pub insert-requires : goal.insert-requires
insert-requires g c =
    let items = c.self.inside.slots.items in
    let slots = map told items in
    let s = c.args.slot in
    let low = c.requires in
    let long : length items ≡ length c.args.self.now = sym (length-map items told) ∙ ap length c.self.view_is in
    let within : s < length items = omega (arith, low, long) in
    let o = c.self.inside in
    let at = c.places_of-places.result in
    let f = fields_of c.in-Some.entry in
    let is : get_or slots s None ≡ Some f = told_at items s within ∙ ap told (item_is items s c.index.result.now within c.index.ensures ∙ c.in-Some.is) in
    let places =
    same_places (map told c.as_slice.result.now) slots s f c.as_slice-2.result.now o.empty c.as_slice-3.result.now o.by_key c.as_slice-4.result.now o.by_place at.empty at.by_key at.by_place
    (ap (map told) c.as_slice.ensures.value) c.as_slice-2.ensures c.as_slice-3.ensures c.as_slice-4.ensures c.places_of-places.ensures in
    let there = among_used slots s f o.empty o.by_key o.by_place at.empty at.by_key at.by_place c.self.invariant.1 is places in
    let counted = c.self.invariant.1.counted in
    let few = c.self.invariant.0 in
    let same = length-map items told in
    let some = there.0.0 in
    record { within = places.empty_is.within; room = omega (arith, counted, few, same, some) }

pub remove-requires : goal.remove-requires
remove-requires g c =
    let items = c.self.inside.slots.items in
    let slots = map told items in
    let s = c.args.slot in
    let low = c.requires in
    let long : length items ≡ length c.args.self.now = sym (length-map items told) ∙ ap length c.self.view_is in
    let within : s < length items = omega (arith, low, long) in
    let o = c.self.inside in
    let at = c.places_of-places.result in
    let f = fields_of c.in-Some.entry in
    let is : get_or slots s None ≡ Some f = told_at items s within ∙ ap told (item_is items s c.index.result.now within c.index.ensures ∙ c.in-Some.is) in
    let places =
    same_places (map told c.as_slice.result.now) slots s f c.as_slice-2.result.now o.empty c.as_slice-3.result.now o.by_key c.as_slice-4.result.now o.by_place at.empty at.by_key at.by_place
    (ap (map told) c.as_slice.ensures.value) c.as_slice-2.ensures c.as_slice-3.ensures c.as_slice-4.ensures c.places_of-places.ensures in
    let there = among_used slots s f o.empty o.by_key o.by_place at.empty at.by_key at.by_place c.self.invariant.1 is places in
    there.0.0

pub remove-requires-2 : goal.remove-requires-2
remove-requires-2 g c =
    let items = c.self.inside.slots.items in
    let slots = map told items in
    let s = c.args.slot in
    let low = c.requires in
    let long : length items ≡ length c.args.self.now = sym (length-map items told) ∙ ap length c.self.view_is in
    let within : s < length items = omega (arith, low, long) in
    let o = c.self.inside in
    let at = c.places_of-places.result in
    let f = fields_of c.in-Some.entry in
    let is : get_or slots s None ≡ Some f = told_at items s within ∙ ap told (item_is items s c.index.result.now within c.index.ensures ∙ c.in-Some.is) in
    let places =
    same_places (map told c.as_slice.result.now) slots s f c.as_slice-2.result.now o.empty c.as_slice-3.result.now o.by_key c.as_slice-4.result.now o.by_place at.empty at.by_key at.by_place
    (ap (map told) c.as_slice.ensures.value) c.as_slice-2.ensures c.as_slice-3.ensures c.as_slice-4.ensures c.places_of-places.ensures in
    let there = among_used slots s f o.empty o.by_key o.by_place at.empty at.by_key at.by_place c.self.invariant.1 is places in
    there.1.0

pub take_off-requires : goal.take_off-requires
take_off-requires g c =
    let o = c.self.inside in
    let items = o.slots.items in
    let slots = map told items in
    let s = c.args.slot in
    let low = c.requires in
    let long : length items ≡ length c.args.self.now = sym (length-map items told) ∙ ap length c.self.view_is in
    let within : s < length items = omega (arith, low, long) in
    let f = fields_of c.in-Some.entry in
    let is : get_or slots s None ≡ Some f = told_at items s within ∙ ap told (item_is items s c.index.result.now within c.index.ensures ∙ c.in-Some.is) in
    let inside : s < length slots = subst (λ n. s < n) (sym (length-map items told)) within in
    enough slots s f o.live inside is c.self.invariant.2

pub invariant_of-self : goal.invariant_of-self
invariant_of-self g c =
    let items = c.self.inside.slots.items in
    let slots = map told items in
    let s = c.args.slot in
    let low = c.requires in
    let long : length items ≡ length c.args.self.now = sym (length-map items told) ∙ ap length c.self.view_is in
    let within : s < length items = omega (arith, low, long) in
    let o = c.self.inside in
    let at = c.places_of-places.result in
    let f = fields_of c.in-Some.entry in
    let is : get_or slots s None ≡ Some f = told_at items s within ∙ ap told (item_is items s c.index.result.now within c.index.ensures ∙ c.in-Some.is) in
    let places =
    same_places (map told c.as_slice.result.now) slots s f c.as_slice-2.result.now o.empty c.as_slice-3.result.now o.by_key c.as_slice-4.result.now o.by_place at.empty at.by_key at.by_place
    (ap (map told) c.as_slice.ensures.value) c.as_slice-2.ensures c.as_slice-3.ensures c.as_slice-4.ensures c.places_of-places.ensures in
    let few = c.self.invariant.0 in
    let same = length-set items s None in
    let inside : s < length slots = subst (λ n. s < n) (sym (length-map items told)) within in (
      omega (arith, few, same),
      same_orders (set slots s None) (map told (set items s None)) (insert o.empty at.empty s) c.insert.new.self (remove o.by_key at.by_key) c.remove.new.self
          (remove o.by_place at.by_place) c.remove-2.new.self (sym (map-set told items s None)) (sym c.insert.ensures) (sym c.remove.ensures) (sym c.remove-2.ensures)
          (cleared slots s f o.empty o.by_key o.by_place at.empty at.by_key at.by_place c.self.invariant.1 inside is places),
      same_sums (set slots s None) (map told (set items s None)) (without_frame o.live f) c.take_off.new.self (sym (map-set told items s None)) (sym c.take_off.ensures)
          (summed_less slots s f o.live inside is c.self.invariant.2),
    )

pub returns : goal.returns
returns g c = map-set told c.self.inside.slots.items c.args.slot None ∙ ap (λ s. slice_set s c.args.slot None) c.self.view_is
