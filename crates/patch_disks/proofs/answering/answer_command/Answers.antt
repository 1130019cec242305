use Rattle.patch_history.specs.Commands.{reply_told}
use Rattle.patch_disks.proofs.answering.answer_command.Goals as goal

pub returns-clause-answered : goal.returns-clause-answered
returns-clause-answered c h contents stands = record {
  reply = reply_told c.reply_to-reply.result;
  told = c.in_ok-reply_line.ensures;
  commanded = c.reply_to-reply.ensures h contents stands;
}
