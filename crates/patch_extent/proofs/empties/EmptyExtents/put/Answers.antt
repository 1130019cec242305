use Rattle.std.proofs.Common.{◌∙◌, length, sym, ap, arith}
use Rattle.std.specs.List.{insert}
use Rattle.patch_extent.proofs.Rising.{put_in, there_already, room}
use Rattle.patch_extent.proofs.empties.EmptyExtents.put.Goals as goal

pub insert-requires : goal.insert-requires
insert-requires g c =
    let some = c.requires in
    let at = c.place_of-at.result in
    let long = ap length c.self.view_is in
    let bound = c.place_of-at.ensures.bound in
    let less = room c.args.self.now c.args.extent at some (c.place_of-at.ensures.place some.test some.count some.numbers_are)
    (sym c.stands_at.ensures ∙ c.if-not-stands_at.true) in
    record { within = omega (arith, bound, long); room = omega (arith, less, long) }

pub returns-then-not-stands_at : goal.returns-then-not-stands_at
returns-then-not-stands_at g c test count high is =
    let at = c.place_of-at.result in
    c.insert.ensures ∙ ap (λ xs. insert xs at c.args.extent) c.self.view_is
    ∙ put_in c.args.self.now test count c.args.extent at high is c.place_of-at.ensures.bound (c.place_of-at.ensures.place test count is)
    (sym c.stands_at.ensures ∙ c.if-not-stands_at.true)

pub returns-else-not-stands_at : goal.returns-else-not-stands_at
returns-else-not-stands_at g c test count high is =
    there_already c.args.self.now test count c.args.extent c.place_of-at.result is (sym c.stands_at.ensures ∙ c.if-not-stands_at.false)
