use Rattle.std.proofs.Common.{◌<◌, ◌∙◌, map, ap, subst, arith}
use Rattle.std.specs.Prelude.{MatchOption, option_map}
use Rattle.patch_index.specs.Index.{told}
use Rattle.patch_index.specs.Keys.{IsPrevious, NoneBelow}
use Rattle.patch_index.specs.Reporting.{reported, of_slots}
use Rattle.patch_index.proofs.Beside.{previous_told, none_below, same_keys}
use Rattle.patch_index.proofs.indexes.Index.previous_key.Goals as goal

pub place_below-place-requires : goal.place_below-place-requires
place_below-place-requires g c =
    let o = c.self.inside in
    (same_keys (map told o.slots.items) (map told c.as_slice-slots.result.now) o.by_key c.as_slice-by_key.result.now (ap (map told) c.as_slice-slots.ensures.value) c.as_slice-by_key.ensures
    c.self.invariant.1.keys).rises

pub returns-then-place-eq0 : goal.returns-then-place-eq0
returns-then-place-eq0 g c =
    let o = c.self.inside in
    let slots = map told c.as_slice-slots.result.now in
    let order = c.as_slice-by_key.result.now in
    let below = option_map (λ b. b.now) c.args.before in
    let same = ap (map told) c.as_slice-slots.ensures.value in
    let keys = same_keys (map told o.slots.items) slots o.by_key order same c.as_slice-by_key.ensures c.self.invariant.1.keys in
    subst (λ v. NoneBelow (of_slots v) below) (same ∙ c.self.view_is)
    (none_below slots order below c.place_below-place.result keys c.place_below-place.ensures c.if-place-eq0.true)

pub returns : goal.returns
returns g c =
    let o = c.self.inside in
    let slots = map told c.as_slice-slots.result.now in
    let order = c.as_slice-by_key.result.now in
    let below = option_map (λ b. b.now) c.args.before in
    let place = c.place_below-place.result in
    let same = ap (map told) c.as_slice-slots.ensures.value in
    let keys = same_keys (map told o.slots.items) slots o.by_key order same c.as_slice-by_key.ensures c.self.invariant.1.keys in
    let off = c.if-place-eq0.false in
    let some : 0 < place = omega (arith, off) in
    subst (λ v. MatchOption c.report_of.result (NoneBelow (of_slots v) below) (λ it. IsPrevious (of_slots v) below (reported it))) (same ∙ c.self.view_is)
    (previous_told slots order below place keys c.place_below-place.ensures some c.report_of.result c.report_of.ensures)
