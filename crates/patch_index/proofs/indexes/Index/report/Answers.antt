use Rattle.std.proofs.Common.{◌∙◌, map, get_or, sym, ap, subst}
use Rattle.std.specs.Prelude.{Some, None, option_map, slice_get}
use Rattle.patch_index.specs.Index.{fields_of, told}
use Rattle.patch_index.specs.Orders.{IsBehind}
use Rattle.patch_index.specs.Reporting.{reported, of_slots}
use Rattle.patch_index.proofs.Counted.{used_at, none_at}
use Rattle.patch_index.proofs.indexes.Index.report.Goals as goal

pub returns-in_err-entry : goal.returns-in_err-entry
returns-in_err-entry g c =
    let slots = map told c.self.inside.slots.items in
    let slot = c.used_slot-slot.result in
    let behind = subst (λ xs. IsBehind xs c.args.number slot) c.as_slice.ensures c.used_slot-slot.ensures in
    let none = ap (λ s. get_or s slot None) c.self.view_is ∙ sym c.in_err-entry.ensures in
    ap (option_map reported) c.from_residual.ensures
    ∙ sym (ap (λ s. slice_get (of_slots s) c.args.number) (sym c.self.view_is) ∙ none_at slots c.self.inside.empty c.self.invariant.1.empties c.args.number slot behind none)

pub returns : goal.returns
returns g c =
    let slots = map told c.self.inside.slots.items in
    let slot = c.used_slot-slot.result in
    let behind = subst (λ xs. IsBehind xs c.args.number slot) c.as_slice.ensures c.used_slot-slot.ensures in
    let is = ap (λ s. get_or s slot None) c.self.view_is ∙ sym c.in_ok-entry.ensures in
    ap Some c.report.ensures
    ∙ sym (ap (λ s. slice_get (of_slots s) c.args.number) (sym c.self.view_is) ∙ used_at slots c.self.inside.empty c.self.invariant.1.empties c.args.number slot behind (fields_of c.in_ok-entry.entry) is)
