use Rattle.std.proofs.Common.{◌≡◌, ◌⊎◌, ◌∙◌, true, refl, sym, ap, subst}
use Rattle.std.proofs.lemmas.Result.{err_from_is_err_and}
use Rattle.std.specs.Prelude.{Err, IfErr}
use Rattle.patch_frame.specs.Frame.{Content, length_of}
use Rattle.patch_history.specs.Command.{Done, Refused}
use Rattle.patch_history.specs.declared.refusals.PutRefusal.TheVariants as put
use Rattle.patch_history.specs.Refusals.{put_cause}
use Rattle.patch_store.specs.Meaning.{Store}
use Rattle.patch_store.specs.Replies.{reply_to}
use Rattle.patch_room.specs.Laws.{with_reclaim}
use Rattle.patch_room.specs.Putting.{HasPutAtNeed, WonNothing, HasReclaimed, wants_room}
use Rattle.patch_room.specs.Room.{HasEmpty}
use Rattle.patch_room.proofs.Calling.{put_alone, found_none, at_length, reclaim_done_at, stopped, stopped_full}
use Rattle.patch_room.proofs.Calling.{stopped_wants, goes_on, has_empty, finds_some, none_found, may_be_put, no_space}
use Rattle.patch_room.proofs.Calling.{reserve_alone, wants, wants_alone}
use Rattle.patch_room.proofs.putting.put_in_reserve.Goals as goal

pub returns-then-not-lacks_space-clause-answer : goal.returns-then-not-lacks_space-clause-answer
returns-then-not-lacks_space-clause-answer g c h was =
    let content : Content = record { key = c.args.key.now; value = c.args.value.now } in
    put_alone h 1 c.args.writer content _ c.args.store.now c.put-first.new.self (c.put-first.ensures.answer h was)

pub returns-then-not-lacks_space-clause-reserve : goal.returns-then-not-lacks_space-clause-reserve
returns-then-not-lacks_space-clause-reserve g c h was has ne =
    let content : Content = record { key = c.args.key.now; value = c.args.value.now } in
    reserve_alone c.laws_below.ensures h c.args.writer content c.put-first.result c.args.store.now c.put-first.new.self
    was has ne (c.put-first.ensures.answer h was) c.put-first.ensures.refused

pub returns-then-not-lacks_space-clause-wanting : goal.returns-then-not-lacks_space-clause-wanting
returns-then-not-lacks_space-clause-wanting g c h was may =
    let content : Content = record { key = c.args.key.now; value = c.args.value.now } in
    wants_alone h c.args.writer content c.put-first.result c.args.store.now c.put-first.new.self may (c.put-first.ensures.answer h was)

pub returns-in_err-win_back-clause-answer : goal.returns-in_err-win_back-clause-answer
returns-in_err-win_back-clause-answer g c h was =
    let content : Content = record { key = c.args.key.now; value = c.args.value.now } in
    let given = c.laws_below.ensures in
    let old = c.args.store.now in
    let mid = c.put-first.new.self in
    let found = found_none h c.args.writer content c.put-first.result old mid was
    (c.lacks_space.ensures.yes c.if-not-lacks_space.false) (c.put-first.ensures.answer h was) c.put-first.ensures.refused in
    let refusal = c.in_err-win_back.field-0.0 in
    let out = err_from_is_err_and c.from_residual.result c.from_residual.ensures.1 in
    let exit : c.from_residual.result ≡ Err refusal = out.1 ∙ ap Err out.2 in
    let won = at_length given h c.args.writer content old mid found c.frame_bytes.result _ c.win_back.new.store
    c.frame_bytes.ensures.exact c.in_err-win_back.ensures.won in
    subst (λ r. HasPutAtNeed h 1 c.args.writer content (reply_to put_cause (λ _. Done) r) old c.win_back.new.store) (sym exit)
    (stopped given h c.args.writer content old mid found 1 (Refused (put_cause refusal)) c.win_back.new.store refl won)

pub returns-in_err-win_back-clause-capacity : goal.returns-in_err-win_back-clause-capacity
returns-in_err-win_back-clause-capacity g c h was has is =
    let content : Content = record { key = c.args.key.now; value = c.args.value.now } in
    let given = c.laws_below.ensures in
    let old = c.args.store.now in
    let mid = c.put-first.new.self in
    let found = found_none h c.args.writer content c.put-first.result old mid was
    (c.lacks_space.ensures.yes c.if-not-lacks_space.false) (c.put-first.ensures.answer h was) c.put-first.ensures.refused in
    let refusal = c.in_err-win_back.field-0.0 in
    let out = err_from_is_err_and c.from_residual.result c.from_residual.ensures.1 in
    let exit : c.from_residual.result ≡ Err refusal = out.1 ∙ ap Err out.2 in
    let this : refusal ≡ put.NoSpace = (let g : Err refusal ≡ Err put.NoSpace = sym exit ∙ is in cc) in
    let won = at_length given h c.args.writer content old mid found c.frame_bytes.result _ c.win_back.new.store
    c.frame_bytes.ensures.exact c.in_err-win_back.ensures.won in
    let same = c.in_err-win_back.ensures.refused (λ out. let no : put.NoSpace ≡ put.OutOfMemory = sym this ∙ out in cc) in
    stopped_full given h c.args.writer content old mid found c.win_back.new.store same
    (subst (λ r. WonNothing (length_of content) (Refused (put_cause r)) mid c.win_back.new.store
    ⊎ HasReclaimed h c.args.writer (length_of content) (Refused (put_cause r)) mid c.win_back.new.store) this won)

pub returns-in_err-win_back-clause-wanting : goal.returns-in_err-win_back-clause-wanting
returns-in_err-win_back-clause-wanting g c h was may =
    let content : Content = record { key = c.args.key.now; value = c.args.value.now } in
    let given = c.laws_below.ensures in
    let old = c.args.store.now in
    let mid = c.put-first.new.self in
    let found = found_none h c.args.writer content c.put-first.result old mid was
    (c.lacks_space.ensures.yes c.if-not-lacks_space.false) (c.put-first.ensures.answer h was) c.put-first.ensures.refused in
    let refusal = c.in_err-win_back.field-0.0 in
    let out = err_from_is_err_and c.from_residual.result c.from_residual.ensures.1 in
    let exit : c.from_residual.result ≡ Err refusal = out.1 ∙ ap Err out.2 in
    let won = at_length given h c.args.writer content old mid found c.frame_bytes.result _ c.win_back.new.store
    c.frame_bytes.ensures.exact c.in_err-win_back.ensures.won in
    subst (λ r. IfErr r (λ refusal. wants_room refusal ≡ true)) (sym exit)
    (wants refusal (stopped_wants given h c.args.writer content old mid found (put_cause refusal) c.win_back.new.store won))

pub returns-clause-answer : goal.returns-clause-answer
returns-clause-answer g c h was =
    let content : Content = record { key = c.args.key.now; value = c.args.value.now } in
    let given = c.laws_below.ensures in
    let old = c.args.store.now in
    let mid = c.put-first.new.self in
    let found = found_none h c.args.writer content c.put-first.result old mid was
    (c.lacks_space.ensures.yes c.if-not-lacks_space.false) (c.put-first.ensures.answer h was) c.put-first.ensures.refused in
    let later = c.win_back.new.store in
    let won = reclaim_done_at given h c.args.writer content old mid found c.frame_bytes.result later
    c.frame_bytes.ensures.exact c.in_ok-win_back.ensures.won in
    let after = with_reclaim h c.args.writer won.extent won.steps in
    goes_on given h c.args.writer content old mid found later won 0 _ c.put.new.self
    (put_alone after 0 c.args.writer content _ later c.put.new.self (c.put.ensures.answer after won.gained.represents))

pub returns-clause-capacity : goal.returns-clause-capacity
returns-clause-capacity g c h was has is =
    let content : Content = record { key = c.args.key.now; value = c.args.value.now } in
    let given = c.laws_below.ensures in
    let old = c.args.store.now in
    let mid = c.put-first.new.self in
    let found = found_none h c.args.writer content c.put-first.result old mid was
    (c.lacks_space.ensures.yes c.if-not-lacks_space.false) (c.put-first.ensures.answer h was) c.put-first.ensures.refused in
    let later = c.win_back.new.store in
    let won = reclaim_done_at given h c.args.writer content old mid found c.frame_bytes.result later
    c.frame_bytes.ensures.exact c.in_ok-win_back.ensures.won in
    let after = with_reclaim h c.args.writer won.extent won.steps in
    absurd (finds_some given h c.args.writer content old mid found later won c.put.new.self has
    (no_space after c.args.writer content c.put.result later c.put.new.self is (c.put.ensures.answer after won.gained.represents)))

pub returns-clause-reserve : goal.returns-clause-reserve
returns-clause-reserve g c h was has ne =
    let content : Content = record { key = c.args.key.now; value = c.args.value.now } in
    let given = c.laws_below.ensures in
    let old = c.args.store.now in
    let mid = c.put-first.new.self in
    let found = found_none h c.args.writer content c.put-first.result old mid was
    (c.lacks_space.ensures.yes c.if-not-lacks_space.false) (c.put-first.ensures.answer h was) c.put-first.ensures.refused in
    let later = c.win_back.new.store in
    let won = reclaim_done_at given h c.args.writer content old mid found c.frame_bytes.result later
    c.frame_bytes.ensures.exact c.in_ok-win_back.ensures.won in
    let after = with_reclaim h c.args.writer won.extent won.steps in
    reserve_alone given after c.args.writer content c.put.result later c.put.new.self won.gained.represents
    (has_empty given h c.args.writer content old mid found later won) ne (c.put.ensures.answer after won.gained.represents) c.put.ensures.refused

pub returns-clause-wanting : goal.returns-clause-wanting
returns-clause-wanting g c h was may =
    let content : Content = record { key = c.args.key.now; value = c.args.value.now } in
    let given = c.laws_below.ensures in
    let old = c.args.store.now in
    let mid = c.put-first.new.self in
    let found = found_none h c.args.writer content c.put-first.result old mid was
    (c.lacks_space.ensures.yes c.if-not-lacks_space.false) (c.put-first.ensures.answer h was) c.put-first.ensures.refused in
    let later = c.win_back.new.store in
    let won = reclaim_done_at given h c.args.writer content old mid found c.frame_bytes.result later
    c.frame_bytes.ensures.exact c.in_ok-win_back.ensures.won in
    let after = with_reclaim h c.args.writer won.extent won.steps in
    wants_alone after c.args.writer content c.put.result later c.put.new.self
    (may_be_put given h c.args.writer content old mid found later won may) (c.put.ensures.answer after won.gained.represents)

pub returns-in_err-win_back-clause-found : goal.returns-in_err-win_back-clause-found
returns-in_err-win_back-clause-found g c h was some =
    let content : Content = record { key = c.args.key.now; value = c.args.value.now } in
    let given = c.laws_below.ensures in
    let old = c.args.store.now in
    let mid = c.put-first.new.self in
    let found = found_none h c.args.writer content c.put-first.result old mid was
    (c.lacks_space.ensures.yes c.if-not-lacks_space.false) (c.put-first.ensures.answer h was) c.put-first.ensures.refused in
    absurd (some (none_found given h c.args.writer content old mid found))

pub returns-clause-found : goal.returns-clause-found
returns-clause-found g c h was some =
    let content : Content = record { key = c.args.key.now; value = c.args.value.now } in
    let given = c.laws_below.ensures in
    let old = c.args.store.now in
    let mid = c.put-first.new.self in
    let found = found_none h c.args.writer content c.put-first.result old mid was
    (c.lacks_space.ensures.yes c.if-not-lacks_space.false) (c.put-first.ensures.answer h was) c.put-first.ensures.refused in
    absurd (some (none_found given h c.args.writer content old mid found))

pub returns-then-not-lacks_space-clause-capacity : goal.returns-then-not-lacks_space-clause-capacity
returns-then-not-lacks_space-clause-capacity g c h was has is = absurd (c.lacks_space.ensures.no c.if-not-lacks_space.true is)

pub returns-then-not-lacks_space-clause-found : goal.returns-then-not-lacks_space-clause-found
returns-then-not-lacks_space-clause-found g c h was some is = c.lacks_space.ensures.no c.if-not-lacks_space.true is

pub returns-in_err-win_back-clause-reserve : goal.returns-in_err-win_back-clause-reserve
returns-in_err-win_back-clause-reserve g c h was has ne =
    let content : Content = record { key = c.args.key.now; value = c.args.value.now } in
    let old = c.args.store.now in
    let mid = c.put-first.new.self in
    let found = found_none h c.args.writer content c.put-first.result old mid was
    (c.lacks_space.ensures.yes c.if-not-lacks_space.false) (c.put-first.ensures.answer h was) c.put-first.ensures.refused in
    let refusal = c.in_err-win_back.field-0.0 in
    let out = err_from_is_err_and c.from_residual.result c.from_residual.ensures.1 in
    let exit : c.from_residual.result ≡ Err refusal = out.1 ∙ ap Err out.2 in
    subst (λ (s : Store). HasEmpty s.shelf) (sym (c.in_err-win_back.ensures.refused (λ out. ne (exit ∙ ap Err out)) ∙ found.same)) has
