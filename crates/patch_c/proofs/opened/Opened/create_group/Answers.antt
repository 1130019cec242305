use Rattle.std.proofs.Common.{pos, ap, refl}
use Rattle.patch_history.specs.Command.{Group, GroupMade}
use Rattle.patch_history.specs.Command as reply
use Rattle.patch_group.specs.Refusals.{group_cause}
use Rattle.patch_store.specs.Replies.{reply_to}
use Rattle.patch_handles.specs.declared.answers.Answer.TheVariants.{Refused}
use Rattle.patch_handles.specs.Answering.{number_of}
use Rattle.patch_c.proofs.CallNumbers.{tells_of}
use Rattle.patch_c.proofs.opened.Opened.create_group.Goals as goal

pub returns-in-Ok-clause-told : goal.returns-in-Ok-clause-told
returns-in-Ok-clause-told c writer =
    tells_of writer Group (GroupMade c.in-Ok.made) (pos 0) _ _ _ _ refl c.number_of_group.ensures (c.in-Ok.ensures.answer writer)

pub returns-in-Err-clause-told : goal.returns-in-Err-clause-told
returns-in-Err-clause-told c writer =
    tells_of writer Group (reply.Refused (group_cause c.in-Err.refusal)) _ _ _ _ _ (ap (λ k. number_of (Refused k)) c.kind.ensures) refl
    (c.in-Err.ensures.answer writer)

pub invariant_of-self : goal.invariant_of-self
invariant_of-self c =
    record { stands = c.calls_stay.ensures _ _ 0 (Group) (reply_to group_cause (λ group. GroupMade group) c.create_group.result) _ c.create_group.new.self c.args.self.now.stands (c.create_group.ensures.answer 0) }
