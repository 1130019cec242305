use Rattle.std.proofs.Common.{◌∙◌, sym, ap}
use Rattle.std.specs.Prelude.{nat_le}
use Rattle.std.specs.List.{list_any}
use Rattle.patch_model.specs.Names.{numbers_named}
use Rattle.patch_model.proofs.Unmade.{runs_past}
use Rattle.patch_model.proofs.names.Named.has_unmade.Goals as goal

pub returns-in-InRuns : goal.returns-in-InRuns
returns-in-InRuns c =
    c.end_unmade.ensures ∙ runs_past c.args.made c.in-InRuns.runs.now ∙ ap (λ ns. list_any (λ n. nat_le c.args.made n) (numbers_named ns)) (sym c.in-InRuns.is)
