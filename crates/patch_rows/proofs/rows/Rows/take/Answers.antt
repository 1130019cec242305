use Rattle.std.proofs.Common.{◌∙◌, ap, sym, subst, None, refl, is_some, set}
use Rattle.std.proofs.lemmas.Option.{slice_get-map}
use Rattle.std.specs.Option.{option_map}
use Rattle.patch_rows.specs.Rows.{row_at, rows_of, AreRows}
use Rattle.patch_rows.proofs.Standings.{entry_of, none_taken, row, row_read, says_taken, still_rows, written}
use Rattle.patch_rows.proofs.rows.Rows.take.Goals as goal

pub returns-in_err-place-clause-row : goal.returns-in_err-place-clause-row
returns-in_err-place-clause-row g c =
    let n = c.args.number in
    c.from_residual.ensures ∙ sym (ap (λ r. row_at r n) (sym c.self.view_is) ∙ row c.self.inside.standing.entries c.self.inside.bound c.self.invariant n ∙ c.in_err-place.ensures.absent)

pub returns-in_err-place-clause-left : goal.returns-in_err-place-clause-left
returns-in_err-place-clause-left g c =
    let n = c.args.number in
    none_taken c.args.self.now.items n (ap (λ r. row_at r n) (sym c.self.view_is) ∙ row c.self.inside.standing.entries c.self.inside.bound c.self.invariant n ∙ c.in_err-place.ensures.absent)

pub unwrap-row-requires : goal.unwrap-row-requires
unwrap-row-requires g c =
    let e = entry_of c.self.inside.standing.entries c.in_ok-place.place c.args.number c.in_ok-place.ensures.found in
    ap is_some (c.swap_remove_index.ensures.entry ∙ e.1)

pub invariant_of-self : goal.invariant_of-self
invariant_of-self g c =
    let m = c.self.inside.standing in
    let n = c.args.number in
    let left = c.swap_remove_index.new.self in
    let says = says_taken m c.self.invariant.unique c.in_ok-place.place n c.in_ok-place.ensures.found left c.swap_remove_index.result c.swap_remove_index.ensures.entry c.swap_remove_index.ensures.updates in
    subst (λ es. AreRows es c.self.inside.bound) (sym c.tighten.ensures) (still_rows m.entries left.entries c.self.inside.bound n None c.self.invariant c.swap_remove_index.ensures.unique says (λ beyond. refl))

pub returns-clause-row : goal.returns-clause-row
returns-clause-row g c =
    let es = c.self.inside.standing.entries in
    let place = c.in_ok-place.place in
    let n = c.args.number in
    row_read es c.self.inside.bound place n c.self.invariant c.in_ok-place.ensures.found c.unwrap-row.result.1
    (slice_get-map (λ e. e.1) es place ∙ ap (option_map (λ e. e.1)) (sym c.swap_remove_index.ensures.entry ∙ c.unwrap-row.ensures))
    ∙ ap (λ r. row_at r n) c.self.view_is

pub returns-clause-left : goal.returns-clause-left
returns-clause-left g c =
    let m = c.self.inside.standing in
    let n = c.args.number in
    let left = c.swap_remove_index.new.self in
    let says = says_taken m c.self.invariant.unique c.in_ok-place.place n c.in_ok-place.ensures.found left c.swap_remove_index.result c.swap_remove_index.ensures.entry c.swap_remove_index.ensures.updates in
    ap (λ es. rows_of es c.self.inside.bound) c.tighten.ensures ∙ written m.entries left.entries c.self.inside.bound n None says ∙ ap (λ r. set r.items n None) c.self.view_is
