use Rattle.std.proofs.Common.{◌∙◌, sym, ap, Some}
use Rattle.std.proofs.lemmas.Bool.{eqb-true}
use Rattle.std.proofs.lemmas.Map.Made.{lookup_key_passes}
use Rattle.std.proofs.lemmas.Option.{slice_get-map}
use Rattle.std.specs.Option.{option_map}
use Rattle.std.specs.Prelude.{nat_eq}
use Rattle.patch_rows.proofs.rows.seek.Goals as goal

pub returns-in-Some-clause-found : goal.returns-in-Some-clause-found
returns-in-Some-clause-found g c =
    let es = c.args.standing.now.entries in
    let same = eqb-true c.args.number c.in-Some.field-0-1.now (lookup_key_passes (nat_eq c.args.number) es c.in-Some.field-0-1.now (sym c.in-Some.ensures.key)) in
    slice_get-map (λ e. e.0) es c.in-Some.place ∙ ap (option_map (λ e. e.0)) c.in-Some.ensures.entry ∙ ap Some (sym same)
