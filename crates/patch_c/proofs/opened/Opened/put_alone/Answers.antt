use Rattle.std.proofs.Common.{ap}
use Rattle.patch_history.specs.Command.{Put, Done}
use Rattle.patch_history.specs.Refusals.{put_cause}
use Rattle.patch_store.specs.Replies.{reply_to}
use Rattle.patch_handles.specs.Answering.{number_of}
use Rattle.patch_c.proofs.CallNumbers.{tells_so}
use Rattle.patch_c.proofs.opened.Opened.put_alone.Goals as goal

pub invariant_of-self : goal.invariant_of-self
invariant_of-self c =
    record { stands = c.calls_stay.ensures _ _ c.args.writer (Put c.args.key.now c.args.value.now) (reply_to put_cause (λ _. Done) c.put.result) _ c.put.new.self c.args.self.now.stands c.put.ensures.answer }

pub returns-clause-told : goal.returns-clause-told
returns-clause-told c =
    tells_so c.args.writer (Put c.args.key.now c.args.value.now) (reply_to put_cause (λ _. Done) c.put.result) _ _ _ (ap number_of c.told.ensures) c.put.ensures.answer
