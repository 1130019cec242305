use Rattle.std.proofs.Common.{◌≡◌, ◌∙◌, [], ap}
use Rattle.patch_records.specs.Lists.{Lists}
use Rattle.patch_records.specs.Records.{Class}
use Rattle.patch_records.specs.Merged.{merged}
use Rattle.patch_records.proofs.Drawing.{drawn-growing}
use Rattle.patch_records.proofs.classes.Class.drawn_growing.Goals as goal

pub returns : goal.returns
returns g c =
    let low : Class = c.args.self.now in
    let high : Class = c.args.high.now in
    let class : Class = c.merged_with-class.result in
    let is : class ≡ merged low high [] [] class.room =
    c.merged_with-class.ensures ∙ ap (λ (l : Lists). merged low high l.members l.after class.room) c.none.ensures in
    drawn-growing low high class c.requires is
