use Rattle.std.proofs.Common.{ap}
use Rattle.patch_history.specs.Command.{CloseGroup, Done}
use Rattle.patch_group.specs.Refusals.{group_cause}
use Rattle.patch_store.specs.Replies.{reply_to}
use Rattle.patch_handles.specs.Answering.{number_of}
use Rattle.patch_c.proofs.CallNumbers.{tells_so}
use Rattle.patch_c.proofs.opened.Opened.close_group.Goals as goal

pub returns-clause-told : goal.returns-clause-told
returns-clause-told c writer =
    tells_so writer (CloseGroup c.args.group) (reply_to group_cause (λ _. Done) c.close_group.result) _ _ _ (ap number_of c.told.ensures) (c.close_group.ensures.answer writer)

pub invariant_of-self : goal.invariant_of-self
invariant_of-self c =
    record { stands = c.calls_stay.ensures _ _ 0 (CloseGroup c.args.group) (reply_to group_cause (λ _. Done) c.close_group.result) _ c.close_group.new.self c.args.self.now.stands (c.close_group.ensures.answer 0) }
