use Rattle.std.proofs.Common.{◌∙◌, ◌∷◌, [], ◌++◌, set, sym, ap}
use Rattle.std.specs.Prelude.{Some, None}
use Rattle.std.proofs.Math.Seq.{set-append_seam}
use Rattle.patch_index.specs.Index.{fields_of, told}
use Rattle.patch_index.proofs.indexes.Index.push.Goals as goal

pub returns-in-Some-clause-pushed : goal.returns-in-Some-clause-pushed
returns-in-Some-clause-pushed g c =
    let slots = c.args.self.now in
    let now = Some (fields_of c.in-Some.entry) in
    c.occupy.ensures
    ∙ ap (λ v. set v c.count-number.result now) c.in-Ok.ensures.pushed
    ∙ ap (λ n. set (slots ++ None ∷ []) n now) c.count-number.ensures.count
    ∙ set-append_seam slots None [] now
    ∙ ap (λ o. slots ++ told o ∷ []) (sym c.in-Some.is)
