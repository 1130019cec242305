use Rattle.patch_records.specs.Records.{Class}
use Rattle.patch_records.proofs.Drawing.{drawn-whole}
use Rattle.patch_records.proofs.classes.Class.drawn_whole.Goals as goal

pub returns : goal.returns
returns g c =
    let low : Class = c.args.self.now in
    let high : Class = c.args.high.now in
    drawn-whole low high c.in_ok-class.class c.in_ok-class.ensures
