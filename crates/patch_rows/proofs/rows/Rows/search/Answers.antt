use Rattle.std.proofs.Common.{◌∙◌, sym, ap}
use Rattle.patch_rows.specs.Rows.{row_at}
use Rattle.patch_rows.proofs.Standings.{row}
use Rattle.patch_rows.proofs.rows.Rows.search.Goals as goal

pub returns : goal.returns
returns g c = c.get.ensures.value ∙ sym (ap (λ r. row_at r c.args.number) (sym c.self.view_is) ∙ row c.self.inside.standing.entries c.self.inside.bound c.self.invariant c.args.number)
