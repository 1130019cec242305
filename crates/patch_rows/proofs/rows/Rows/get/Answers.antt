use Rattle.std.proofs.Common.{◌∙◌, sym, ap}
use Rattle.std.specs.Prelude.{nat_eq}
use Rattle.std.specs.Map.{lookup}
use Rattle.patch_rows.specs.Rows.{row_at}
use Rattle.patch_rows.proofs.Standings.{row}
use Rattle.patch_rows.proofs.rows.Rows.get.Goals as goal

pub returns-then-at-number : goal.returns-then-at-number
returns-then-at-number g c =
    sym (ap (λ r. row_at r c.args.number) (sym c.self.view_is) ∙ row c.self.inside.standing.entries c.self.inside.bound c.self.invariant c.args.number
    ∙ ap (λ n. lookup (nat_eq n) c.self.inside.standing.entries) (sym c.if-at-number.true) ∙ c.in-Some.ensures.value)
