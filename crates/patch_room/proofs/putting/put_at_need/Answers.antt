use Rattle.std.proofs.Common.{◌≡◌, ◌⊎◌, ◌∙◌, refl, sym, ap, subst}
use Rattle.std.proofs.lemmas.Result.{err_from_is_err_and}
use Rattle.std.specs.Prelude.{true, false, Err, IfErr}
use Rattle.patch_frame.specs.Frame.{Content, length_of}
use Rattle.patch_history.specs.Command.{Done, Refused}
use Rattle.patch_history.specs.declared.refusals.PutRefusal.TheVariants as put
use Rattle.patch_history.specs.Refusals.{put_cause}
use Rattle.patch_store.specs.Meaning.{Store}
use Rattle.patch_store.specs.Replies.{reply_to}
use Rattle.patch_room.specs.Laws.{with_reclaim}
use Rattle.patch_room.specs.Putting.{HasPutAtNeed, WonNothing, HasReclaimed, wants_room}
use Rattle.patch_room.specs.Room.{HasEmpty}
use Rattle.patch_room.proofs.Calling.{put_alone, otherwise_alone, never_otherwise, may_be, found_none, at_length, reclaim_done_at}
use Rattle.patch_room.proofs.Calling.{stopped, stopped_full, goes_on, has_empty, found_behind, may_be_put, reserve_alone}
use Rattle.patch_room.proofs.putting.put_at_need.Goals as goal

pub returns-then-not-lacks_space-clause-answer : goal.returns-then-not-lacks_space-clause-answer
returns-then-not-lacks_space-clause-answer g c h was =
    let content : Content = record { key = c.args.key.now; value = c.args.value.now } in
    put_alone h 2 c.args.writer content _ c.args.store.now c.put-first.new.self (c.put-first.ensures.answer h was)

pub returns-then-not-lacks_space-clause-reserve : goal.returns-then-not-lacks_space-clause-reserve
returns-then-not-lacks_space-clause-reserve g c h was has ne =
    let content : Content = record { key = c.args.key.now; value = c.args.value.now } in
    reserve_alone c.laws_below.ensures h c.args.writer content c.put-first.result c.args.store.now c.put-first.new.self
    was has ne (c.put-first.ensures.answer h was) c.put-first.ensures.refused

pub returns-in_err-win_back-clause-answer : goal.returns-in_err-win_back-clause-answer
returns-in_err-win_back-clause-answer g c h was =
    let content : Content = record { key = c.args.key.now; value = c.args.value.now } in
    let given = c.laws_below.ensures in
    let old = c.args.store.now in
    let mid = c.put-first.new.self in
    let found = found_none h c.args.writer content c.put-first.result old mid was
    (c.lacks_space.ensures.yes c.if-not-lacks_space.false) (c.put-first.ensures.answer h was) c.put-first.ensures.refused in
    let refusal = c.in_err-win_back.field-0.0 in
    let out = err_from_is_err_and c.from_residual.result c.from_residual.ensures.1 in
    let exit : c.from_residual.result ≡ Err refusal = out.1 ∙ ap Err out.2 in
    let won = at_length given h c.args.writer content old mid found c.frame_bytes.result _ c.win_back.new.store
    c.frame_bytes.ensures.exact c.in_err-win_back.ensures.won in
    subst (λ r. HasPutAtNeed h 2 c.args.writer content (reply_to put_cause (λ _. Done) r) old c.win_back.new.store) (sym exit)
    (stopped given h c.args.writer content old mid found 2 (Refused (put_cause refusal)) c.win_back.new.store refl won)

pub returns-in_err-win_back-clause-capacity : goal.returns-in_err-win_back-clause-capacity
returns-in_err-win_back-clause-capacity g c h was is =
    let content : Content = record { key = c.args.key.now; value = c.args.value.now } in
    let given = c.laws_below.ensures in
    let old = c.args.store.now in
    let mid = c.put-first.new.self in
    let found = found_none h c.args.writer content c.put-first.result old mid was
    (c.lacks_space.ensures.yes c.if-not-lacks_space.false) (c.put-first.ensures.answer h was) c.put-first.ensures.refused in
    let refusal = c.in_err-win_back.field-0.0 in
    let out = err_from_is_err_and c.from_residual.result c.from_residual.ensures.1 in
    let exit : c.from_residual.result ≡ Err refusal = out.1 ∙ ap Err out.2 in
    let this : refusal ≡ put.NoSpace = (let g : Err refusal ≡ Err put.NoSpace = sym exit ∙ is in cc) in
    let won = at_length given h c.args.writer content old mid found c.frame_bytes.result _ c.win_back.new.store
    c.frame_bytes.ensures.exact c.in_err-win_back.ensures.won in
    let same = c.in_err-win_back.ensures.refused (λ out. let no : put.NoSpace ≡ put.OutOfMemory = sym this ∙ out in cc) in
    stopped_full given h c.args.writer content old mid found c.win_back.new.store same
    (subst (λ r. WonNothing (length_of content) (Refused (put_cause r)) mid c.win_back.new.store
    ⊎ HasReclaimed h c.args.writer (length_of content) (Refused (put_cause r)) mid c.win_back.new.store) this won)

pub returns-clause-answer : goal.returns-clause-answer
returns-clause-answer g c h was =
    let content : Content = record { key = c.args.key.now; value = c.args.value.now } in
    let given = c.laws_below.ensures in
    let old = c.args.store.now in
    let mid = c.put-first.new.self in
    let found = found_none h c.args.writer content c.put-first.result old mid was
    (c.lacks_space.ensures.yes c.if-not-lacks_space.false) (c.put-first.ensures.answer h was) c.put-first.ensures.refused in
    let later = c.win_back.new.store in
    let won = reclaim_done_at given h c.args.writer content old mid found c.frame_bytes.result later
    c.frame_bytes.ensures.exact c.in_ok-win_back.ensures.won in
    let after = with_reclaim h c.args.writer won.extent won.steps in
    goes_on given h c.args.writer content old mid found later won 1 _ c.put_in_reserve.new.store
    (c.put_in_reserve.ensures.answer after won.gained.represents)

pub returns-clause-capacity : goal.returns-clause-capacity
returns-clause-capacity g c h was is =
    let content : Content = record { key = c.args.key.now; value = c.args.value.now } in
    let given = c.laws_below.ensures in
    let old = c.args.store.now in
    let mid = c.put-first.new.self in
    let found = found_none h c.args.writer content c.put-first.result old mid was
    (c.lacks_space.ensures.yes c.if-not-lacks_space.false) (c.put-first.ensures.answer h was) c.put-first.ensures.refused in
    let later = c.win_back.new.store in
    let won = reclaim_done_at given h c.args.writer content old mid found c.frame_bytes.result later
    c.frame_bytes.ensures.exact c.in_ok-win_back.ensures.won in
    let after = with_reclaim h c.args.writer won.extent won.steps in
    c.put_in_reserve.ensures.capacity after won.gained.represents (has_empty given h c.args.writer content old mid found later won) is

pub returns-clause-reserve : goal.returns-clause-reserve
returns-clause-reserve g c h was has ne =
    let content : Content = record { key = c.args.key.now; value = c.args.value.now } in
    let given = c.laws_below.ensures in
    let old = c.args.store.now in
    let mid = c.put-first.new.self in
    let found = found_none h c.args.writer content c.put-first.result old mid was
    (c.lacks_space.ensures.yes c.if-not-lacks_space.false) (c.put-first.ensures.answer h was) c.put-first.ensures.refused in
    let later = c.win_back.new.store in
    let won = reclaim_done_at given h c.args.writer content old mid found c.frame_bytes.result later
    c.frame_bytes.ensures.exact c.in_ok-win_back.ensures.won in
    let after = with_reclaim h c.args.writer won.extent won.steps in
    c.put_in_reserve.ensures.reserve after won.gained.represents (has_empty given h c.args.writer content old mid found later won) ne

pub returns-clause-refused : goal.returns-clause-refused
returns-clause-refused g c h was =
    let content : Content = record { key = c.args.key.now; value = c.args.value.now } in
    let given = c.laws_below.ensures in
    let old = c.args.store.now in
    let mid = c.put-first.new.self in
    let found = found_none h c.args.writer content c.put-first.result old mid was
    (c.lacks_space.ensures.yes c.if-not-lacks_space.false) (c.put-first.ensures.answer h was) c.put-first.ensures.refused in
    let later = c.win_back.new.store in
    let won = reclaim_done_at given h c.args.writer content old mid found c.frame_bytes.result later
    c.frame_bytes.ensures.exact c.in_ok-win_back.ensures.won in
    let after = with_reclaim h c.args.writer won.extent won.steps in
    never_otherwise c.put_in_reserve.result old c.put_in_reserve.new.store
    (c.put_in_reserve.ensures.wanting after won.gained.represents
    (may_be_put given h c.args.writer content old mid found later won (may_be given h c.args.writer content old mid found)))

pub returns-in_err-win_back-clause-same : goal.returns-in_err-win_back-clause-same
returns-in_err-win_back-clause-same g c h was has is =
    let content : Content = record { key = c.args.key.now; value = c.args.value.now } in
    let given = c.laws_below.ensures in
    let old = c.args.store.now in
    let mid = c.put-first.new.self in
    let found = found_none h c.args.writer content c.put-first.result old mid was
    (c.lacks_space.ensures.yes c.if-not-lacks_space.false) (c.put-first.ensures.answer h was) c.put-first.ensures.refused in
    let refusal = c.in_err-win_back.field-0.0 in
    let out = err_from_is_err_and c.from_residual.result c.from_residual.ensures.1 in
    let this : refusal ≡ put.NoSpace = (let g : Err refusal ≡ Err put.NoSpace = sym (out.1 ∙ ap Err out.2) ∙ is in cc) in
    c.in_err-win_back.ensures.refused (λ out. let no : put.NoSpace ≡ put.OutOfMemory = sym this ∙ out in cc) ∙ found.same

pub returns-clause-same : goal.returns-clause-same
returns-clause-same g c h was has is =
    let content : Content = record { key = c.args.key.now; value = c.args.value.now } in
    let given = c.laws_below.ensures in
    let old = c.args.store.now in
    let mid = c.put-first.new.self in
    let found = found_none h c.args.writer content c.put-first.result old mid was
    (c.lacks_space.ensures.yes c.if-not-lacks_space.false) (c.put-first.ensures.answer h was) c.put-first.ensures.refused in
    let later = c.win_back.new.store in
    let won = reclaim_done_at given h c.args.writer content old mid found c.frame_bytes.result later
    c.frame_bytes.ensures.exact c.in_ok-win_back.ensures.won in
    let after = with_reclaim h c.args.writer won.extent won.steps in
    absurd (c.put_in_reserve.ensures.found after won.gained.represents
    (found_behind given h c.args.writer content old mid found later won has) is)

pub returns-then-not-lacks_space-clause-capacity : goal.returns-then-not-lacks_space-clause-capacity
returns-then-not-lacks_space-clause-capacity g c h was is = absurd (c.lacks_space.ensures.no c.if-not-lacks_space.true is)

pub returns-then-not-lacks_space-clause-same : goal.returns-then-not-lacks_space-clause-same
returns-then-not-lacks_space-clause-same g c h was has is = absurd (c.lacks_space.ensures.no c.if-not-lacks_space.true is)

pub returns-then-not-lacks_space-clause-refused : goal.returns-then-not-lacks_space-clause-refused
returns-then-not-lacks_space-clause-refused g c h was =
    otherwise_alone c.put-first.result c.args.store.now c.put-first.new.self c.put-first.ensures.refused

pub returns-in_err-win_back-clause-reserve : goal.returns-in_err-win_back-clause-reserve
returns-in_err-win_back-clause-reserve g c h was has ne =
    let content : Content = record { key = c.args.key.now; value = c.args.value.now } in
    let old = c.args.store.now in
    let mid = c.put-first.new.self in
    let found = found_none h c.args.writer content c.put-first.result old mid was
    (c.lacks_space.ensures.yes c.if-not-lacks_space.false) (c.put-first.ensures.answer h was) c.put-first.ensures.refused in
    let refusal = c.in_err-win_back.field-0.0 in
    let out = err_from_is_err_and c.from_residual.result c.from_residual.ensures.1 in
    let exit : c.from_residual.result ≡ Err refusal = out.1 ∙ ap Err out.2 in
    subst (λ (s : Store). HasEmpty s.shelf) (sym (c.in_err-win_back.ensures.refused (λ out. ne (exit ∙ ap Err out)) ∙ found.same)) has

pub returns-in_err-win_back-clause-refused : goal.returns-in_err-win_back-clause-refused
returns-in_err-win_back-clause-refused g c h was =
    let content : Content = record { key = c.args.key.now; value = c.args.value.now } in
    let old = c.args.store.now in
    let mid = c.put-first.new.self in
    let found = found_none h c.args.writer content c.put-first.result old mid was
    (c.lacks_space.ensures.yes c.if-not-lacks_space.false) (c.put-first.ensures.answer h was) c.put-first.ensures.refused in
    let refusal = c.in_err-win_back.field-0.0 in
    let out = err_from_is_err_and c.from_residual.result c.from_residual.ensures.1 in
    let exit : c.from_residual.result ≡ Err refusal = out.1 ∙ ap Err out.2 in
    subst (λ r. IfErr r (λ refusal. wants_room refusal ≡ false → c.win_back.new.store ≡ old)) (sym exit)
    (λ no. c.in_err-win_back.ensures.refused (λ out. let clash : true ≡ false = ap wants_room (sym out) ∙ no in cc) ∙ found.same)
