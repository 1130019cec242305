use Rattle.std.proofs.Common.{ap}
use Rattle.patch_history.specs.Command.{Reclaim, Done}
use Rattle.patch_history.specs.Refusals.{reclaim_cause}
use Rattle.patch_store.specs.Replies.{reply_to}
use Rattle.patch_handles.specs.Answering.{number_of}
use Rattle.patch_c.proofs.CallNumbers.{tells_so}
use Rattle.patch_c.proofs.opened.Opened.reclaim.Goals as goal

pub returns-clause-told : goal.returns-clause-told
returns-clause-told c writer =
    tells_so writer (Reclaim c.args.extent) (reply_to reclaim_cause (λ _. Done) c.reclaim.result) _ _ _ (ap number_of c.told.ensures) (c.reclaim.ensures.answer writer)

pub invariant_of-self : goal.invariant_of-self
invariant_of-self c =
    record { stands = c.calls_stay.ensures _ _ 0 (Reclaim c.args.extent) (reply_to reclaim_cause (λ _. Done) c.reclaim.result) _ c.reclaim.new.self c.args.self.now.stands (c.reclaim.ensures.answer 0) }
