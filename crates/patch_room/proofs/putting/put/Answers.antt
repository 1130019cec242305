use Rattle.std.proofs.Common.{◌∙◌, ◌≡◌, sym, ap, subst}
use Rattle.std.proofs.lemmas.Result.{err_from_is_err_and}
use Rattle.std.specs.Prelude.{Err}
use Rattle.patch_frame.specs.Frame.{Content}
use Rattle.patch_history.specs.Command.{Done}
use Rattle.patch_history.specs.Refusals.{put_cause}
use Rattle.patch_store.specs.Replies.{reply_to}
use Rattle.patch_store.specs.Running.{with_calls}
use Rattle.patch_room.specs.Putting.{HasPut, calls_at_need}
use Rattle.patch_room.proofs.Steps.{stands_ahead, put_ahead, put_refused}
use Rattle.patch_room.proofs.putting.put.Goals as goal

pub returns-in_err-put_at_need-clause-answer : goal.returns-in_err-put_at_need-clause-answer
returns-in_err-put_at_need-clause-answer g c h was =
    let content : Content = record { key = c.args.key.now; value = c.args.value.now } in
    let refusal = c.in_err-put_at_need.field-0.0 in
    let out = err_from_is_err_and c.from_residual.result c.from_residual.ensures.1 in
    let exit : c.from_residual.result ≡ Err refusal = out.1 ∙ ap Err out.2 in
    let new = c.put_at_need.new.store in
    subst (λ r. HasPut h 2 c.args.writer content (reply_to put_cause (λ _. Done) r) c.args.store.now new) (sym exit)
    (put_refused h 2 c.args.writer content (put_cause refusal) c.args.store.now new (c.in_err-put_at_need.ensures.answer h was))

pub returns-in_err-put_at_need-clause-capacity : goal.returns-in_err-put_at_need-clause-capacity
returns-in_err-put_at_need-clause-capacity g c h was is =
    let refusal = c.in_err-put_at_need.field-0.0 in
    let out = err_from_is_err_and c.from_residual.result c.from_residual.ensures.1 in
    let exit : c.from_residual.result ≡ Err refusal = out.1 ∙ ap Err out.2 in
    c.in_err-put_at_need.ensures.capacity h was (sym exit ∙ is)

pub returns-clause-answer : goal.returns-clause-answer
returns-clause-answer g c h was =
    let content : Content = record { key = c.args.key.now; value = c.args.value.now } in
    let old = c.args.store.now in
    let mid = c.put_at_need.new.store in
    let done = c.in_ok-put_at_need.ensures.answer h was in
    put_ahead h 2 c.args.writer content old mid c.move_ahead.new.store done
    (stands_ahead (with_calls h (calls_at_need {reply = Done} done.need)) c.args.writer c.move_ahead.result mid c.move_ahead.new.store done.represents c.move_ahead.ensures.moves)

pub returns-clause-reserve : goal.returns-clause-reserve
returns-clause-reserve g c h was has ne =
    let done = c.in_ok-put_at_need.ensures.answer h was in
    c.move_ahead.ensures.reserve (with_calls h (calls_at_need {reply = Done} done.need)) done.represents (c.in_ok-put_at_need.ensures.reserve h was has ne)
