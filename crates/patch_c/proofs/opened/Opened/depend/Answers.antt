use Rattle.std.proofs.Common.{ap}
use Rattle.patch_history.specs.Command.{Depend, Done}
use Rattle.patch_group.specs.Refusals.{group_cause}
use Rattle.patch_store.specs.Replies.{reply_to}
use Rattle.patch_handles.specs.Answering.{number_of}
use Rattle.patch_c.proofs.CallNumbers.{tells_so}
use Rattle.patch_c.proofs.opened.Opened.depend.Goals as goal

pub returns-clause-told : goal.returns-clause-told
returns-clause-told c writer =
    tells_so writer (Depend c.args.later c.args.earlier) (reply_to group_cause (λ _. Done) c.depend.result) _ _ _ (ap number_of c.told.ensures) (c.depend.ensures.answer writer)

pub invariant_of-self : goal.invariant_of-self
invariant_of-self c =
    record { stands = c.calls_stay.ensures _ _ 0 (Depend c.args.later c.args.earlier) (reply_to group_cause (λ _. Done) c.depend.result) _ c.depend.new.self c.args.self.now.stands (c.depend.ensures.answer 0) }
