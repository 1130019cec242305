use Rattle.std.proofs.Common.{◌≡◌, ◌<◌, ◌∙◌, length, map, get_or, set, refl, sym, ap, subst, arith}
use Rattle.std.specs.Prelude.{Some, None, slice_set}
use Rattle.std.specs.List.{insert, remove}
use Rattle.std.proofs.lemmas.List.{length-map, length-set, map-set}
use Rattle.std.proofs.lemmas.List.Edits.{length-remove}
use Rattle.patch_index.specs.Index.{fields_of, told}
use Rattle.patch_index.specs.Orders.{place_rank}
use Rattle.patch_index.specs.Sums.{with_frame, without_frame}
use Rattle.patch_index.proofs.SlotChanges.{among_places, others_by_place, refilled, same_rise, same_place, same_orders}
use Rattle.patch_index.proofs.Summing.{room_for, enough, summed_less, summed_anew, same_sums}
use Rattle.patch_index.proofs.indexes.Index.refill.Goals as goal

pub place_of-from-requires : goal.place_of-from-requires
place_of-from-requires g c =
    let o = c.self.inside in
    same_rise (map told o.slots.items) (map told c.as_slice.result.now) o.by_place c.as_slice-2.result.now (sym (ap (map told) c.as_slice.ensures.value)) (sym c.as_slice-2.ensures)
    c.self.invariant.1.places.rises

pub remove-requires : goal.remove-requires
remove-requires g c =
    let items = c.self.inside.slots.items in
    let slots = map told items in
    let s = c.args.slot in
    let o = c.self.inside in
    let f = fields_of c.args.old in
    let is : get_or slots s None ≡ Some f = ap (λ v. get_or v s None) c.self.view_is ∙ c.requires.used in
    let p = c.place_of-from.result in
    let from = same_place (map told c.as_slice.result.now) slots c.as_slice-2.result.now o.by_place (place_rank (Some f), s) p (ap (map told) c.as_slice.ensures.value) c.as_slice-2.ensures c.place_of-from.ensures in
    (among_places slots s f o.empty o.by_key o.by_place p c.self.invariant.1 is from).0

pub place_of-to-requires : goal.place_of-to-requires
place_of-to-requires g c =
    let items = c.self.inside.slots.items in
    let slots = map told items in
    let s = c.args.slot in
    let o = c.self.inside in
    let f = fields_of c.args.old in
    let is : get_or slots s None ≡ Some f = ap (λ v. get_or v s None) c.self.view_is ∙ c.requires.used in
    let low = c.requires.there in
    let long : length items ≡ length c.args.self.now = sym (length-map items told) ∙ ap length c.self.view_is in
    let inside : s < length slots = subst (λ n. s < n) (sym (length-map items told)) (omega (arith, low, long)) in
    let p = c.place_of-from.result in
    let from = same_place (map told c.as_slice.result.now) slots c.as_slice-2.result.now o.by_place (place_rank (Some f), s) p (ap (map told) c.as_slice.ensures.value) c.as_slice-2.ensures c.place_of-from.ensures in
    same_rise slots (map told c.as_slice-3.result.now) (remove o.by_place p) c.as_slice-4.result.now (sym (ap (map told) c.as_slice-3.ensures.value)) (sym (c.as_slice-4.ensures ∙ c.remove.ensures))
    (others_by_place slots s f o.empty o.by_key o.by_place p c.self.invariant.1 inside is from).rises

pub insert-requires : goal.insert-requires
insert-requires g c =
    let items = c.self.inside.slots.items in
    let slots = map told items in
    let s = c.args.slot in
    let o = c.self.inside in
    let f = fields_of c.args.old in
    let is : get_or slots s None ≡ Some f = ap (λ v. get_or v s None) c.self.view_is ∙ c.requires.used in
    let p = c.place_of-from.result in
    let from = same_place (map told c.as_slice.result.now) slots c.as_slice-2.result.now o.by_place (place_rank (Some f), s) p (ap (map told) c.as_slice.ensures.value) c.as_slice-2.ensures c.place_of-from.ensures in
    let new = fields_of c.args.entry in
    let q = c.place_of-to.result in
    let to = same_place (map told c.as_slice-3.result.now) slots c.as_slice-4.result.now (remove o.by_place p) (place_rank (Some new), s) q (ap (map told) c.as_slice-3.ensures.value)
    (c.as_slice-4.ensures ∙ c.remove.ensures) c.place_of-to.ensures in
    let there = (among_places slots s f o.empty o.by_key o.by_place p c.self.invariant.1 is from).0 in
    let shorter = length-remove o.by_place p there in
    let now = ap length c.remove.ensures in
    let counted = c.self.invariant.1.counted in
    let placed = c.self.invariant.1.placed in
    let few = c.self.invariant.0 in
    let same = length-map items told in
    let within = to.within in
    record { within = omega (arith, within, now); room = omega (arith, there, shorter, now, counted, placed, few, same) }

pub take_off-requires : goal.take_off-requires
take_off-requires g c =
    let o = c.self.inside in
    let items = o.slots.items in
    let slots = map told items in
    let s = c.args.slot in
    let f = fields_of c.args.old in
    let is : get_or slots s None ≡ Some f = ap (λ v. get_or v s None) c.self.view_is ∙ c.requires.used in
    let low = c.requires.there in
    let long : length items ≡ length c.args.self.now = sym (length-map items told) ∙ ap length c.self.view_is in
    let inside : s < length slots = subst (λ n. s < n) (sym (length-map items told)) (omega (arith, low, long)) in
    enough slots s f o.live inside is c.self.invariant.2

pub add-requires : goal.add-requires
add-requires g c =
    let o = c.self.inside in
    let items = o.slots.items in
    let slots = map told items in
    let s = c.args.slot in
    let f = fields_of c.args.old in
    let is : get_or slots s None ≡ Some f = ap (λ v. get_or v s None) c.self.view_is ∙ c.requires.used in
    let low = c.requires.there in
    let long : length items ≡ length c.args.self.now = sym (length-map items told) ∙ ap length c.self.view_is in
    let inside : s < length slots = subst (λ n. s < n) (sym (length-map items told)) (omega (arith, low, long)) in
    let few = c.self.invariant.0 in
    let same = length-set items s None in
    let others = same_sums (set slots s None) (map told (set items s None)) (without_frame o.live f) c.take_off.new.self (sym (map-set told items s None)) (sym c.take_off.ensures)
    (summed_less slots s f o.live inside is c.self.invariant.2) in
    let room = room_for (set items s None) c.take_off.new.self others (omega (arith, few, same)) c.args.entry.extent in
    let within = c.args.entry.within in
    omega (arith, room, within)

pub invariant_of-self : goal.invariant_of-self
invariant_of-self g c =
    let items = c.self.inside.slots.items in
    let slots = map told items in
    let s = c.args.slot in
    let o = c.self.inside in
    let f = fields_of c.args.old in
    let is : get_or slots s None ≡ Some f = ap (λ v. get_or v s None) c.self.view_is ∙ c.requires.used in
    let low = c.requires.there in
    let long : length items ≡ length c.args.self.now = sym (length-map items told) ∙ ap length c.self.view_is in
    let inside : s < length slots = subst (λ n. s < n) (sym (length-map items told)) (omega (arith, low, long)) in
    let p = c.place_of-from.result in
    let from = same_place (map told c.as_slice.result.now) slots c.as_slice-2.result.now o.by_place (place_rank (Some f), s) p (ap (map told) c.as_slice.ensures.value) c.as_slice-2.ensures c.place_of-from.ensures in
    let new = fields_of c.args.entry in
    let q = c.place_of-to.result in
    let to = same_place (map told c.as_slice-3.result.now) slots c.as_slice-4.result.now (remove o.by_place p) (place_rank (Some new), s) q (ap (map told) c.as_slice-3.ensures.value)
    (c.as_slice-4.ensures ∙ c.remove.ensures) c.place_of-to.ensures in
    let few = c.self.invariant.0 in
    let same = length-set items s (Some c.args.entry) in (
      omega (arith, few, same),
      same_orders (set slots s (Some new)) (map told (set items s (Some c.args.entry))) o.empty o.empty o.by_key o.by_key (insert (remove o.by_place p) q s) c.insert.new.self
          (sym (map-set told items s (Some c.args.entry))) refl refl (ap (λ xs. insert xs q s) (sym c.remove.ensures) ∙ sym c.insert.ensures)
          (refilled slots s f new o.empty o.by_key o.by_place p q c.self.invariant.1 inside is c.requires.key from to),
      same_sums (set slots s (Some new)) (map told (set items s (Some c.args.entry))) (with_frame (without_frame o.live f) new) c.add.new.self
          (sym (map-set told items s (Some c.args.entry))) (ap (λ sums. with_frame sums new) (sym c.take_off.ensures) ∙ sym c.add.ensures)
          (summed_anew slots s f new o.live inside is c.self.invariant.2),
    )

pub returns : goal.returns
returns g c =
    map-set told c.self.inside.slots.items c.args.slot (Some c.args.entry) ∙ ap (λ s. slice_set s c.args.slot (Some (fields_of c.args.entry))) c.self.view_is
