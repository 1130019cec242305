use Rattle.std.proofs.Common.{pos, ap, refl}
use Rattle.patch_history.specs.Command.{Pending, Count}
use Rattle.patch_history.specs.Command as reply
use Rattle.patch_group.specs.Refusals.{group_cause}
use Rattle.patch_handles.specs.declared.answers.Answer.TheVariants.{Refused}
use Rattle.patch_handles.specs.Answering.{number_of}
use Rattle.patch_c.proofs.CallNumbers.{tells_of}
use Rattle.patch_c.proofs.opened.Opened.pending.Goals as goal

pub returns-in-Ok : goal.returns-in-Ok
returns-in-Ok c writer = tells_of writer (Pending c.args.group) (Count c.in-Ok.count) (pos 0) _ _ _ _ refl refl (c.in-Ok.ensures writer)

pub returns-in-Err : goal.returns-in-Err
returns-in-Err c writer =
    tells_of writer (Pending c.args.group) (reply.Refused (group_cause c.in-Err.refusal)) _ _ _ _ _ (ap (λ k. number_of (Refused k)) c.kind.ensures) refl
    (c.in-Err.ensures writer)
