use Rattle.patch_history.specs.Commands.{command_of, reply_told}
use Rattle.patch_disks.proofs.Calling.{called_so}
use Rattle.patch_disks.proofs.answering.call.Goals as goal

pub returns : goal.returns
returns c h contents stands =
    called_so c.steps_extend.ensures.state c.images_stay.ensures c.disks_stay.ensures h c.args.writer (command_of c.args.command.now) (reply_told c.answer.result)
    c.args.store.now c.answer.new.self contents c.answer.ensures.answer stands
