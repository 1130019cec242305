use Rattle.std.proofs.Common.{◌∙◌, sym}
use Rattle.patch_records.proofs.Drawing.{drawn-around}
use Rattle.patch_records.proofs.classes.Class.drawn_up.Goals as goal

pub returns-then-is_around : goal.returns-then-is_around
returns-then-is_around g c =
    drawn-around c.args.self.now c.args.high.now (sym c.has_room_for-growing.ensures.exact ∙ c.if-growing.true)
    (sym c.is_around.ensures.exact ∙ c.if-is_around.true) c.is_around.ensures.held
