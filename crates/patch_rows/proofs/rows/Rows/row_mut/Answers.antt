use Rattle.std.proofs.Common.{◌≡◌, ◌∙◌, ℕ, true, List, Option, None, Some, refl, sym, ap, subst}
use Rattle.std.specs.Prelude.{IfNone, IfSome, is_some}
use Rattle.indexmap.specs.IndexMap.{set_value_at, spare}
use Rattle.patch_rows.specs.Rows.{Rows}
use Rattle.patch_rows.proofs.Standings.{place_within, row, row_read, says_written, written, written_rows}
use Rattle.patch_rows.proofs.rows.Rows.row_mut.Goals as goal

-- a place is found where the row stands
found_some : {T : Type 0} (o : Option ℕ) (r : Option T) → IfNone o (r ≡ None) → is_some r ≡ true → is_some o ≡ true
found_some None r absent some = absurd (let none = ap is_some absent in cc)
found_some (Some p) r absent some = refl

at_place : (o : Option ℕ) (P : ℕ → Type 0) (p : ℕ) → IfSome o P → o ≡ Some p → P p
at_place None P p holds is = absurd (cc)
at_place (Some q) P p holds is = let same : q ≡ p = cc in subst P same holds

pub unwrap-place-requires : goal.unwrap-place-requires
unwrap-place-requires g c =
    let stands = row c.self.inside.standing.entries c.self.inside.bound c.self.invariant c.args.number in
    found_some c.place_of.result _ c.place_of.ensures.absent (ap is_some (sym stands) ∙ (rw (← c.self.view_is) at c.requires))

pub index_mut-requires : goal.index_mut-requires
index_mut-requires g c =
    place_within c.self.inside.standing.entries c.unwrap-place.result c.args.number (at_place c.place_of.result _ c.unwrap-place.result c.place_of.ensures.found c.unwrap-place.ensures)

pub invariant_of-self-lent : goal.invariant_of-self-lent
invariant_of-self-lent g c w =
    let found = at_place c.place_of.result _ c.unwrap-place.result c.place_of.ensures.found c.unwrap-place.ensures in
    written_rows c.self.inside.standing c.self.invariant.unique c.unwrap-place.result c.args.number found c.self.inside.bound c.self.invariant w

pub returns : goal.returns
returns g c =
    let m = c.self.inside.standing in
    let place = c.unwrap-place.result in
    let n = c.args.number in
    let bound = c.self.inside.bound in
    let found = at_place c.place_of.result _ place c.place_of.ensures.found c.unwrap-place.ensures in
    rw (← c.self.view_is) (
      (refl, λ w. ap (λ (xs : List (Option _)). let r : Rows _ = record { items = xs; room = spare m } in r) (written m.entries (set_value_at m.entries place w) bound n (Some w) (says_written m c.self.invariant.unique place n found w))),
      record { writes_back = tt; value = sym (row_read m.entries bound place n c.self.invariant found c.index_mut.result.now c.index_mut.ensures.value) },
    )
