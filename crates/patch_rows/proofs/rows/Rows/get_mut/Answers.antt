use Rattle.std.proofs.Common.{◌∙◌, inl, refl, sym, Some}
use Rattle.indexmap.specs.IndexMap.{set_value_at, spare}
use Rattle.patch_rows.proofs.Standings.{place_within, row, row_read, says_written, written, written_rows}
use Rattle.patch_rows.proofs.rows.Rows.get_mut.Goals as goal

pub index_mut-requires : goal.index_mut-requires
index_mut-requires g c = place_within c.self.inside.standing.entries c.in-Some.place c.args.number c.in-Some.ensures.found

pub invariant_of-self-lent : goal.invariant_of-self-lent
invariant_of-self-lent g c w =
    written_rows c.self.inside.standing c.self.invariant.unique c.in-Some.place c.args.number c.in-Some.ensures.found c.self.inside.bound c.self.invariant w

pub returns-in-Some : goal.returns-in-Some
returns-in-Some g c =
    let m = c.self.inside.standing in
    let place = c.in-Some.place in
    let n = c.args.number in
    let bound = c.self.inside.bound in
    let found = c.in-Some.ensures.found in
    rw (← c.self.view_is) (
      (λ i. inl (c.index_mut.result.ghost_name, λ w. record { items = written m.entries (set_value_at m.entries place w) bound n (Some w) (says_written m c.self.invariant.unique place n found w) i; room = spare m })),
      record { writes_back = tt; value = row_read m.entries bound place n c.self.invariant found c.index_mut.result.now c.index_mut.ensures.value },
    )

pub returns-in-None : goal.returns-in-None
returns-in-None g c =
    rw (← c.self.view_is) (refl, record { writes_back = tt; value = sym (row c.self.inside.standing.entries c.self.inside.bound c.self.invariant c.args.number ∙ c.in-None.ensures.absent) })
