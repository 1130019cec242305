use Rattle.std.proofs.Common.{◌∙◌, ap}
use Rattle.std.specs.Prelude.{Some, None, slice_set}
use Rattle.std.proofs.lemmas.List.{set-set}
use Rattle.patch_index.specs.Index.{fields_of}
use Rattle.patch_index.proofs.indexes.Index.fill.Goals as goal

pub returns : goal.returns
returns g c =
    let now = Some (fields_of c.args.entry) in
    c.occupy.ensures ∙ ap (λ v. slice_set v c.args.slot now) c.clear.ensures ∙ set-set c.args.self.now c.args.slot None now
