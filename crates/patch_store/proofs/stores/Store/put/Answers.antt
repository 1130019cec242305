use Rattle.std.proofs.Common.{◌∙◌, sym, ap}
use Rattle.std.specs.Prelude.{Some}
use Rattle.std.proofs.lemmas.Result.{err_from_is_err_and}
use Rattle.patch_history.specs.Refusals.{put_cause}
use Rattle.patch_history.specs.History.{standing_of}
use Rattle.patch_store.proofs.Puts.{IsPutOf, refused_put, asks_so, put_so, given_up_so, none_put}
use Rattle.patch_store.proofs.stores.Store.put.Goals as goal

pub returns-in_err-target-clause-answer : goal.returns-in_err-target-clause-answer
returns-in_err-target-clause-answer g c h was =
    let p = err_from_is_err_and c.from_residual.result c.from_residual.ensures.1 in
    rw p.1 (refused_put c.histories_extend.ensures h c.args.writer c.args.key.now c.args.value.now (put_cause p.0) c.args.self.now was
    (c.in_err-target.ensures.cause h was ∙ ap (λ r. Some (put_cause r)) (sym p.2)))

pub returns-in_default-clause-answer : goal.returns-in_default-clause-answer
returns-in_default-clause-answer g c h was =
    let is : IsPutOf h c.args.key.now c.args.value.now c.in_ok-target.target.slot c.in_ok-target.target.extent c.args.self.now = record {
      extends = c.histories_extend.ensures;
      runs = c.standings_run.ensures;
      agree = c.histories_are_of_stores.ensures.agree;
      kept = c.extents_are_kept.ensures;
      no_cause = c.in_ok-target.ensures.none h was;
      target = c.in_ok-target.ensures.target;
      was = was;
    } in
    none_put h c.args.writer c.args.key.now c.args.value.now _ _ c.args.self.now is c.frames_compose.ensures.begun

pub returns-in_default-put_frame-clause-answer : goal.returns-in_default-put_frame-clause-answer
returns-in_default-put_frame-clause-answer g c h was =
    let is : IsPutOf h c.args.key.now c.args.value.now c.in_ok-target.target.slot c.in_ok-target.target.extent c.args.self.now = record {
      extends = c.histories_extend.ensures;
      runs = c.standings_run.ensures;
      agree = c.histories_are_of_stores.ensures.agree;
      kept = c.extents_are_kept.ensures;
      no_cause = c.in_ok-target.ensures.none h was;
      target = c.in_ok-target.ensures.target;
      was = was;
    } in
    given_up_so h c.args.writer c.args.key.now c.args.value.now _ _ c.args.self.now is c.put_frame.new.self
    (c.in_default-put_frame.ensures (standing_of h) (record { key = c.args.key.now; value = c.args.value.now })
    (asks_so h c.args.writer c.args.key.now c.args.value.now _ _ c.args.self.now is c.from_vec-frame.result (c.from_vec-frame.ensures ∙ c.in-Ok.ensures)))

pub returns-clause-answer : goal.returns-clause-answer
returns-clause-answer g c h was =
    let is : IsPutOf h c.args.key.now c.args.value.now c.in_ok-target.target.slot c.in_ok-target.target.extent c.args.self.now = record {
      extends = c.histories_extend.ensures;
      runs = c.standings_run.ensures;
      agree = c.histories_are_of_stores.ensures.agree;
      kept = c.extents_are_kept.ensures;
      no_cause = c.in_ok-target.ensures.none h was;
      target = c.in_ok-target.ensures.target;
      was = was;
    } in
    put_so h c.args.writer c.args.key.now c.args.value.now _ _ c.args.self.now is c.put_frame.new.self
    (c.in-Ok-put_frame.ensures (standing_of h) (record { key = c.args.key.now; value = c.args.value.now })
    (asks_so h c.args.writer c.args.key.now c.args.value.now _ _ c.args.self.now is c.from_vec-frame.result (c.from_vec-frame.ensures ∙ c.in-Ok.ensures)))
