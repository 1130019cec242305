use Rattle.std.proofs.Common.{◌≡◌, ◌+◌, ◌∙◌, ◌++◌, ◌∷◌, [], sym, ap, take, get_or, append_assoc, append-nil, filter}
use Rattle.std.proofs.lemmas.List.{take_more, take_all}
use Rattle.patch_model.specs.State.{entries_of}
use Rattle.patch_plans.specs.Groups.{is_pending}
use Rattle.patch_model.specs.Runs.{numbers_in, numbers_of}
use Rattle.patch_model.specs.declared.runs.Run.{Run}
use Rattle.patch_group.proofs.Outcomes.{refused-done}
use Rattle.patch_group.proofs.Pending.{filter_both}
use Rattle.patch_group.proofs.Ranges.{numbers_in-push}
use Rattle.patch_group.proofs.waiting.wait_for_each.Goals as goal

pub loop-run-init : goal.loop-run-init
loop-run-init g c run r = sym (append-nil c.args.waiting.now.items)

pub wait_for_run-requires : goal.wait_for_run-requires
wait_for_run-requires g c = c.none_pending_below-from.ensures.answer

pub returns-in_err-wait_for_run : goal.returns-in_err-wait_for_run
returns-in_err-wait_for_run g c run r = refused-done c.from_residual.result _ c.from_residual.ensures.0

pub loop-run-preserved : goal.loop-run-preserved
loop-run-preserved g c run r =
    let old = c.args.waiting.now.items in
    let runs = c.args.runs.now in
    let i = c.loop-run.run-index in
    let one : Run = get_or runs i (record { first = 0; last = 0 }) in
    let p = is_pending (entries_of run) in
    let before = numbers_in (take i runs) in
    let step : take (i + 1) runs ≡ take i runs ++ one ∷ [] = take_more runs i (record { first = 0; last = 0 }) c.loop-run-test.true in
    let all = ap numbers_in step ∙ numbers_in-push (take i runs) one in
    c.in_ok-wait_for_run.ensures run r ∙ ap (λ xs. xs ++ filter p (numbers_of one)) (c.loop-run.invariant run r) ∙ append_assoc old (filter p before) (filter p (numbers_of one))
    ∙ ap (λ xs. old ++ xs) (sym (ap (filter p) all ∙ filter_both p before (numbers_of one)))

pub returns : goal.returns
returns g c run r =
    let p = is_pending (entries_of run) in
    c.loop-run.invariant run r ∙ ap (λ rs. c.args.waiting.now.items ++ filter p (numbers_in rs)) (take_all c.loop-run.run-index c.args.runs.now c.loop-run-test.false)
