use Rattle.std.proofs.Common.{◌∙◌, sym, ap, length, arith}
use Rattle.patch_rows.specs.Rows.{row_at}
use Rattle.patch_rows.proofs.Standings.{below_more, length-rows, row}
use Rattle.patch_rows.proofs.rows.Rows.lengthen.Goals as goal

pub returns-clause-kept : goal.returns-clause-kept
returns-clause-kept g c n =
    let es = c.self.inside.standing.entries in
    let more = c.max-self-inside.result in
    row es more (below_more es c.self.inside.bound more c.self.invariant (omega (arith, c.max-self-inside.ensures))) n
    ∙ sym (ap (λ r. row_at r n) (sym c.self.view_is) ∙ row es c.self.inside.bound c.self.invariant n)

pub returns-clause-long : goal.returns-clause-long
returns-clause-long g c = omega (arith, c.max-self-inside.ensures, length-rows c.self.inside.standing.entries c.max-self-inside.result)

pub returns-clause-longer : goal.returns-clause-longer
returns-clause-longer g c =
    let es = c.self.inside.standing.entries in
    omega (arith, c.max-self-inside.ensures, ap (λ r. length r.items) c.self.view_is, length-rows es c.max-self-inside.result, length-rows es c.self.inside.bound)

pub invariant_of-self : goal.invariant_of-self
invariant_of-self g c = below_more c.self.inside.standing.entries c.self.inside.bound c.max-self-inside.result c.self.invariant (omega (arith, c.max-self-inside.ensures))
