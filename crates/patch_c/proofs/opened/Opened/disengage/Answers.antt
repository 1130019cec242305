use Rattle.std.proofs.Common.{◌≡◌, ◌∙◌, ap, sym, subst}
use Rattle.std.specs.Prelude.{IfSome, Some}
use Rattle.patch_history.specs.Command.{Disengage, Done}
use Rattle.patch_group.specs.Refusals.{group_cause}
use Rattle.patch_store.specs.Replies.{reply_to}
use Rattle.patch_handles.specs.Answering.{number_of, engaging_writer}
use Rattle.patch_c.specs.Answering.{Tells}
use Rattle.patch_c.proofs.CallNumbers.{tells_so}
use Rattle.patch_c.proofs.opened.Opened.disengage.Goals as goal

pub invariant_of-self : goal.invariant_of-self
invariant_of-self c =
    record { stands = c.calls_stay.ensures _ _ c.in-Some.writer (Disengage c.args.group) (reply_to group_cause (λ _. Done) c.disengage.result) _ c.disengage.new.self c.args.self.now.stands c.disengage.ensures.answer }

pub returns-clause-told : goal.returns-clause-told
returns-clause-told c =
    let is : engaging_writer c.args.writer ≡ Some c.in-Some.writer = sym c.engaging_writer.ensures ∙ c.in-Some.is in
    subst (λ o. IfSome o (λ no. Tells no (Disengage c.args.group) (number_of c.told.result) c.args.self.now.store c.disengage.new.self)) (sym is)
    (tells_so c.in-Some.writer (Disengage c.args.group) (reply_to group_cause (λ _. Done) c.disengage.result) _ _ _ (ap number_of c.told.ensures) c.disengage.ensures.answer)
