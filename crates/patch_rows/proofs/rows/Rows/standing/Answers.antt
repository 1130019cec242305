use Rattle.std.proofs.Common.{◌∙◌, sym, ap, count_by, is_some}
use Rattle.patch_rows.proofs.Standings.{counted}
use Rattle.patch_rows.proofs.rows.Rows.standing.Goals as goal

pub returns : goal.returns
returns g c = c.len.ensures.len ∙ sym (ap (λ r. count_by is_some r.items) (sym c.self.view_is) ∙ counted c.self.inside.standing.entries c.self.inside.bound c.self.invariant)
