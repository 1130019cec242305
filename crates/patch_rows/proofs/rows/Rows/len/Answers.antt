use Rattle.std.proofs.Common.{◌∙◌, sym, ap, length}
use Rattle.patch_rows.proofs.Standings.{length-rows}
use Rattle.patch_rows.proofs.rows.Rows.len.Goals as goal

pub returns : goal.returns
returns g c = sym (ap (λ r. length r.items) (sym c.self.view_is) ∙ length-rows c.self.inside.standing.entries c.self.inside.bound)
