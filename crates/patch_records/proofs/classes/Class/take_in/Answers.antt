use Rattle.std.proofs.Common.{sym, subst, refl, false}
use Rattle.patch_records.specs.Records.{Class}
use Rattle.patch_records.specs.Merged.{IsUnion}
use Rattle.patch_records.proofs.Drawing.{with-lists-union}
use Rattle.patch_records.proofs.classes.Class.take_in.Goals as goal

pub returns-clause-of_both : goal.returns-clause-of_both
returns-clause-of_both g c =
    let name = c.lesser_name-name.result in
    let low : Class = c.args.self.now in
    let high : Class = c.args.high.now in
    let is = c.self.view_is in
    subst (λ (z : Class). IsUnion (record z { name = name; flying = false; hard = false; taken = false }) low high) (sym is)
    (with-lists-union (record c.take_lists.new.self { name = name; flying = false; hard = false; taken = false }) c.take_lists.new.self low high
    c.lesser_name-name.ensures refl c.take_lists.ensures.room c.take_lists.ensures.no_room)
