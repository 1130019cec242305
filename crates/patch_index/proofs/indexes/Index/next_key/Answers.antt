use Rattle.std.proofs.Common.{◌<◌, ◌∙◌, length, map, ap, subst, arith}
use Rattle.std.specs.Prelude.{MatchOption}
use Rattle.patch_index.specs.Index.{told}
use Rattle.patch_index.specs.Keys.{IsNext, NoneFrom}
use Rattle.patch_index.specs.Reporting.{reported, of_slots}
use Rattle.patch_index.proofs.Beside.{next_told, none_from, same_keys}
use Rattle.patch_index.proofs.indexes.Index.next_key.Goals as goal

pub place_below-place-requires : goal.place_below-place-requires
place_below-place-requires g c =
    let o = c.self.inside in
    (same_keys (map told o.slots.items) (map told c.as_slice-slots.result.now) o.by_key c.as_slice-by_key.result.now (ap (map told) c.as_slice-slots.ensures.value) c.as_slice-by_key.ensures
    c.self.invariant.1.keys).rises

pub returns-then-place-by_key : goal.returns-then-place-by_key
returns-then-place-by_key g c =
    let o = c.self.inside in
    let slots = map told c.as_slice-slots.result.now in
    let order = c.as_slice-by_key.result.now in
    let same = ap (map told) c.as_slice-slots.ensures.value in
    let keys = same_keys (map told o.slots.items) slots o.by_key order same c.as_slice-by_key.ensures c.self.invariant.1.keys in
    subst (λ v. NoneFrom (of_slots v) c.args.from.now) (same ∙ c.self.view_is)
    (none_from slots order c.args.from.now c.place_below-place.result keys c.place_below-place.ensures c.if-place-by_key.true)

pub returns : goal.returns
returns g c =
    let o = c.self.inside in
    let slots = map told c.as_slice-slots.result.now in
    let order = c.as_slice-by_key.result.now in
    let from = c.args.from.now in
    let place = c.place_below-place.result in
    let same = ap (map told) c.as_slice-slots.ensures.value in
    let keys = same_keys (map told o.slots.items) slots o.by_key order same c.as_slice-by_key.ensures c.self.invariant.1.keys in
    let low = c.place_below-place.ensures.within in
    let off = c.if-place-by_key.false in
    let inside : place < length order = omega (arith, low, off) in
    subst (λ v. MatchOption c.report_of.result (NoneFrom (of_slots v) from) (λ it. IsNext (of_slots v) from (reported it))) (same ∙ c.self.view_is)
    (next_told slots order from place keys c.place_below-place.ensures inside c.report_of.result c.report_of.ensures)
