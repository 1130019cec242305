use Rattle.std.proofs.Common.{◌∙◌, ap, subst, sym, arith, ◌<◌, Some, length, set}
use Rattle.patch_rows.proofs.Standings.{length-rows, still_rows, when_ok, written}
use Rattle.patch_rows.proofs.rows.Rows.put.Goals as goal

pub invariant_of-self : goal.invariant_of-self
invariant_of-self g c =
    let es = c.self.inside.standing.entries in
    let bound = c.self.inside.bound in
    let u = when_ok c.insert.result c.insert.ensures.updates (c.insert.ensures.succeeds (subst (λ r. 0 < r.room) (sym c.self.view_is) c.requires.room)) in
    still_rows es c.insert.new.self.entries bound c.args.number (Some c.args.row) c.self.invariant c.insert.ensures.unique u.0
    (λ beyond. absurd (omega (arith, beyond, c.requires.within, ap (λ r. length r.items) c.self.view_is, length-rows es bound)))

pub returns : goal.returns
returns g c =
    let es = c.self.inside.standing.entries in
    let u = when_ok c.insert.result c.insert.ensures.updates (c.insert.ensures.succeeds (subst (λ r. 0 < r.room) (sym c.self.view_is) c.requires.room)) in
    written es c.insert.new.self.entries c.self.inside.bound c.args.number (Some c.args.row) u.0 ∙ ap (λ r. set r.items c.args.number (Some c.args.row)) c.self.view_is
