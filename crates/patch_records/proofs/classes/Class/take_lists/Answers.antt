use Rattle.std.proofs.Common.{◌++◌, ◌∙◌, refl, sym, ap, subst, arith}
use Rattle.std.specs.List.Sorted.{IsNonDecreasing}
use Rattle.patch_records.proofs.classes.Class.take_lists.Goals as goal

pub invariant_of-self : goal.invariant_of-self
invariant_of-self g c =
    let is = c.self.view_is in
    let high_is = c.high.view_is in
    let members : IsNonDecreasing (c.self.inside.lists.members ++ c.high.inside.lists.members) =
    subst (λ z. IsNonDecreasing (z.members ++ c.high.inside.lists.members)) (sym is)
    (subst (λ z. IsNonDecreasing (c.args.self.now.members ++ z.members)) (sym high_is) (c.if-has_room_for.ensures.members refl)) in
    let after : IsNonDecreasing (c.self.inside.lists.after ++ c.high.inside.lists.after) =
    subst (λ z. IsNonDecreasing (z.after ++ c.high.inside.lists.after)) (sym is)
    (subst (λ z. IsNonDecreasing (c.args.self.now.after ++ z.after)) (sym high_is) (c.if-has_room_for.ensures.after refl)) in
    let members_are = c.put_behind.ensures.members ∙ ap (λ ms. c.self.inside.lists.members ++ ms) c.members-members.ensures in
    let after_are = c.put_behind.ensures.after ∙ ap (λ ms. c.self.inside.lists.after ++ ms) c.after-names.ensures in (
      c.self.invariant.0,
      c.self.invariant.1,
      subst IsNonDecreasing (sym members_are) members,
      subst IsNonDecreasing (sym after_are) after,
      (let had = c.self.invariant.4 in
          let grown = c.put_behind.ensures.spare in
          omega (arith, had, grown)),
    )
