use Rattle.patch_history.specs.Commands.{reply_told}
use Rattle.patch_disks.proofs.Rooming.{by_itself}
use Rattle.patch_disks.proofs.answering.reply_in_room.Goals as goal

pub returns-in_default : goal.returns-in_default
returns-in_default c h contents stands =
    by_itself h c.args.writer c.args.command.now (reply_told c.call.result) c.call.new.store contents c.in_default.not-Put (c.call.ensures h contents stands)
