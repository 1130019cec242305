use Rattle.std.proofs.Common.{sym, subst, refl}
use Rattle.patch_records.specs.Records.{Class}
use Rattle.patch_records.specs.Merged.{IsUnion, with_lists}
use Rattle.patch_records.proofs.Drawing.{with-lists-union}
use Rattle.patch_records.proofs.classes.Class.become_both.Goals as goal

pub returns-then-growing-clause-of_both : goal.returns-then-growing-clause-of_both
returns-then-growing-clause-of_both g c t =
    let class : Class = c.drawn.inside.class in
    let lists : Class = c.take_lists.new.self in
    let low : Class = c.args.self.now in
    let high : Class = c.args.high.now in
    subst (λ (z : Class). IsUnion z low high) (sym c.take_the_rest.ensures)
    (with-lists-union (with_lists class lists) lists low high (c.has_name_of-has_lesser_name.ensures t) refl c.take_lists.ensures.room c.take_lists.ensures.no_room)
