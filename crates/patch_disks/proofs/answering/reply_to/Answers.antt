use Rattle.std.proofs.Common.{ℕ, sym, subst}
use Rattle.patch_history.specs.Command.{Command}
use Rattle.patch_history.specs.Commands.{command_of, reply_told}
use Rattle.patch_disks.specs.Running.{IsCommanded}
use Rattle.patch_disks.proofs.Rooming.{by_hand}
use Rattle.patch_disks.proofs.answering.reply_to.Goals as goal

pub returns-in-ByHand : goal.returns-in-ByHand
returns-in-ByHand c h contents stands =
    let asked : ℕ × Command = (c.args.writer, command_of c.args.command.now) in
    let reply = reply_told c.call.result in
    subst (λ r. IsCommanded r h asked reply c.call.new.store contents) (sym c.in-ByHand.is)
    (by_hand h asked reply c.call.new.store contents (c.call.ensures h contents stands))

pub returns-in-ByItself : goal.returns-in-ByItself
returns-in-ByItself c h contents stands =
    subst (λ r. IsCommanded r h (c.args.writer, command_of c.args.command.now) (reply_told c.reply_in_room.result) c.reply_in_room.new.store contents) (sym c.in-ByItself.is)
    (c.reply_in_room.ensures h contents stands)
