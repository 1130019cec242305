use Rattle.std.proofs.Common.{◌≡◌, ◌<◌, ◌∙◌, length, map, get_or, set, sym, ap, subst, arith}
use Rattle.std.specs.Prelude.{Some, None, slice_set}
use Rattle.std.specs.List.{insert, remove}
use Rattle.std.proofs.lemmas.List.{length-map, length-set, map-set}
use Rattle.patch_index.specs.Index.{fields_of, told}
use Rattle.patch_index.specs.Sums.{with_frame}
use Rattle.patch_index.proofs.SlotChanges.{among_empty, filled, same_places, same_orders}
use Rattle.patch_index.proofs.Summing.{room_for, summed_more, same_sums}
use Rattle.patch_index.proofs.indexes.Index.occupy.Goals as goal

pub remove-requires : goal.remove-requires
remove-requires g c =
    let items = c.self.inside.slots.items in
    let slots = map told items in
    let s = c.args.slot in
    let low = c.requires.there in
    let long : length items ≡ length c.args.self.now = sym (length-map items told) ∙ ap length c.self.view_is in
    let within : s < length items = omega (arith, low, long) in
    let o = c.self.inside in
    let at = c.places_of-places.result in
    let f = fields_of c.args.entry in
    let is : get_or slots s None ≡ None = ap (λ v. get_or v s None) c.self.view_is ∙ c.requires.empty in
    let inside : s < length slots = subst (λ n. s < n) (sym (length-map items told)) within in
    let places =
    same_places (map told c.as_slice.result.now) slots s f c.as_slice-2.result.now o.empty c.as_slice-3.result.now o.by_key c.as_slice-4.result.now o.by_place at.empty at.by_key at.by_place
    (ap (map told) c.as_slice.ensures.value) c.as_slice-2.ensures c.as_slice-3.ensures c.as_slice-4.ensures c.places_of-places.ensures in
    (among_empty slots s o.empty o.by_key o.by_place at.empty c.self.invariant.1 inside is places.empty_is).0

pub add-requires : goal.add-requires
add-requires g c =
    let o = c.self.inside in
    let low = room_for o.slots.items o.live c.self.invariant.2 c.self.invariant.0 c.args.entry.extent in
    let within = c.args.entry.within in
    omega (arith, low, within)

pub invariant_of-self : goal.invariant_of-self
invariant_of-self g c =
    let items = c.self.inside.slots.items in
    let slots = map told items in
    let s = c.args.slot in
    let low = c.requires.there in
    let long : length items ≡ length c.args.self.now = sym (length-map items told) ∙ ap length c.self.view_is in
    let within : s < length items = omega (arith, low, long) in
    let o = c.self.inside in
    let at = c.places_of-places.result in
    let f = fields_of c.args.entry in
    let is : get_or slots s None ≡ None = ap (λ v. get_or v s None) c.self.view_is ∙ c.requires.empty in
    let inside : s < length slots = subst (λ n. s < n) (sym (length-map items told)) within in
    let places =
    same_places (map told c.as_slice.result.now) slots s f c.as_slice-2.result.now o.empty c.as_slice-3.result.now o.by_key c.as_slice-4.result.now o.by_place at.empty at.by_key at.by_place
    (ap (map told) c.as_slice.ensures.value) c.as_slice-2.ensures c.as_slice-3.ensures c.as_slice-4.ensures c.places_of-places.ensures in
    let few = c.self.invariant.0 in
    let same = length-set items s (Some c.args.entry) in (
      omega (arith, few, same),
      same_orders (set slots s (Some f)) (map told (set items s (Some c.args.entry))) (remove o.empty at.empty) c.remove.new.self (insert o.by_key at.by_key s) c.insert.new.self
          (insert o.by_place at.by_place s) c.insert-2.new.self (sym (map-set told items s (Some c.args.entry))) (sym c.remove.ensures) (sym c.insert.ensures) (sym c.insert-2.ensures)
          (filled slots s f o.empty o.by_key o.by_place at.empty at.by_key at.by_place c.self.invariant.1 inside is places),
      same_sums (set slots s (Some f)) (map told (set items s (Some c.args.entry))) (with_frame o.live f) c.add.new.self (sym (map-set told items s (Some c.args.entry))) (sym c.add.ensures)
          (summed_more slots s f o.live inside is c.self.invariant.2),
    )

pub returns : goal.returns
returns g c =
    map-set told c.self.inside.slots.items c.args.slot (Some c.args.entry) ∙ ap (λ s. slice_set s c.args.slot (Some (fields_of c.args.entry))) c.self.view_is
