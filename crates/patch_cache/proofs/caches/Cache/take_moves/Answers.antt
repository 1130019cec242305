use Rattle.std.proofs.Common.{◌≡◌, ◌∙◌, ℕ, Bool, List, Result, Ok, Err, sym, ap}
use Rattle.std.specs.Result.{IsErrAnd}
use Rattle.patch_model.specs.declared.refusals.Refusal.{Refusal}
use Rattle.patch_model.specs.Execution.{Execution}
use Rattle.patch_cache.specs.Contents.{Contents}
use Rattle.patch_cache.specs.Viewing.{with_moves, StandsBy}
use Rattle.patch_cache.specs.Looking.{HasMovedBy}
use Rattle.std.proofs.lemmas.List.{drop_all}
use Rattle.patch_cache.proofs.Moving.{goes_on}
use Rattle.patch_cache.proofs.caches.Cache.take_moves.Goals as goal

-- the refusal of a move, as it is handed on
stopped : (whole : Bool) (run : Execution) (block : ℕ) (moved : Result (List ℕ) Refusal) (r : Result (Unit {0}) Refusal) (e : Refusal) (new : Contents) → IsErrAnd r (λ f. f ≡ e) → moved ≡ Err e
    → StandsBy whole run block new → HasMovedBy whole run block moved r new
stopped whole run block moved (Ok x) e new is gives stands = absurd is
stopped whole run block moved (Err f) e new is gives stands = (gives ∙ ap Err (sym is), stands)

pub returns-in_err-take_move-clause-answer : goal.returns-in_err-take_move-clause-answer
returns-in_err-take_move-clause-answer g c = λ whole run names at.
    let before = c.loop-step.invariant.so_far whole run names at in
    let why = c.in_err-take_move.ensures.answer whole run before.0 before.2 in
    stopped whole run c.args.block (with_moves run c.args.block names c.args.moves.now) c.from_residual.result c.in_err-take_move.field-0.0 c.take_move.new.self c.from_residual.ensures.1
    (goes_on run c.args.block names before.0 _ c.args.moves.now c.loop-step.step-index c.step-item.result c.loop-step-test.true c.step-item.is why.0 before.1) why.1

pub loop-step-preserved : goal.loop-step-preserved
loop-step-preserved g c = record {
  resident = λ n. c.take_move.ensures.resident n ∙ c.loop-step.invariant.resident n;
  trace = c.take_move.ensures.trace ∙ c.loop-step.invariant.trace;
  view = λ before as_view. c.take_move.ensures.view before (c.loop-step.invariant.view before as_view);
  so_far = λ whole run names at.
      let before = c.loop-step.invariant.so_far whole run names at in
      let done = c.in_ok-take_move.ensures.answer whole run before.0 before.2 in (
        done.0,
        goes_on run c.args.block names before.0 _ c.args.moves.now c.loop-step.step-index c.step-item.result c.loop-step-test.true c.step-item.is done.1 before.1,
        done.2,
      );
}

pub returns-clause-answer : goal.returns-clause-answer
returns-clause-answer g c = λ whole run names at.
    let before = c.loop-step.invariant.so_far whole run names at in
    (before.0, before.1 ∙ ap (with_moves run c.args.block before.0) (drop_all _ _ c.loop-step-test.false), before.2)
