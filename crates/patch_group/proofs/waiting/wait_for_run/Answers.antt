use Rattle.std.proofs.Common.{◌≡◌, ◌≤◌, inl, inr, ◌∙◌, ◌++◌, ◌∷◌, [], ◌-◌, sym, ap, arith, append_assoc, append-nil, filter}
use Rattle.std.specs.List.{range_with_len}
use Rattle.std.proofs.lemmas.Bool.{cases_lt}
use Rattle.patch_model.specs.State.{entries_of}
use Rattle.patch_plans.specs.Groups.{is_pending}
use Rattle.patch_group.proofs.Outcomes.{refused-done, done-then}
use Rattle.patch_group.proofs.Below.{run_kept, front_kept}
use Rattle.patch_group.proofs.Ranges.{range_next}
use Rattle.patch_group.proofs.Pending.{filter_both}
use Rattle.patch_group.proofs.waiting.wait_for_run.Goals as goal

pub returns-then-numbers-from : goal.returns-then-numbers-from
returns-then-numbers-from g c run r =
    let old = c.args.waiting.now.items in
    sym (ap (λ ns. old ++ ns) (run_kept (is_pending (entries_of run)) c.args.from c.args.numbers.now (c.requires run r) c.if-numbers-from.true) ∙ append-nil old)

pub loop-no-init : goal.loop-no-init
loop-no-init g c =
    let old = c.args.waiting.now.items in
    let first = c.args.numbers.now.first in
    record {
      listed = λ run r. sym (ap (λ ns. old ++ ns) (front_kept (is_pending (entries_of run)) c.args.from first c.max-first.result (c.requires run r) c.max-first.ensures) ∙ append-nil old);
      still = λ l. omega (arith, l, c.max-first.ensures, c.if-numbers-from.false);
    }

pub loop-no-preserved : goal.loop-no-preserved
loop-no-preserved g c =
    let old = c.args.waiting.now.items in
    let first = c.args.numbers.now.first in
    let at = c.loop-no.no in
    let low : first ≤ at = omega (arith, c.max-first.ensures, c.loop-no.auto.no) in
    record {
      listed = λ run r.
          let p = is_pending (entries_of run) in
          let so_far = range_with_len first (at - first) in
          c.in_ok-wait_if_pending.ensures run r ∙ ap (λ xs. xs ++ filter p (at ∷ [])) (c.loop-no.invariant.listed run r) ∙ append_assoc old (filter p so_far) (filter p (at ∷ []))
          ∙ ap (λ xs. old ++ xs) (sym (filter_both p so_far (at ∷ [])) ∙ ap (λ ns. filter p ns) (sym (range_next first at low)));
      still = λ l. absurd (omega (arith, l, low, c.loop-no-test.true));
    }

pub returns-in_err-wait_if_pending : goal.returns-in_err-wait_if_pending
returns-in_err-wait_if_pending g c run r = refused-done c.from_residual.result _ c.from_residual.ensures.0

pub returns : goal.returns
returns g c run r =
    let old = c.args.waiting.now.items in
    let numbers = c.args.numbers.now in
    let p = is_pending (entries_of run) in
    let all = range_with_len numbers.first (numbers.last - numbers.first) in
    let many : c.loop-no.no - numbers.first ≡ numbers.last - numbers.first = elim (cases_lt numbers.last numbers.first) [
      | inl l ↦ let s = c.loop-no.invariant.still l in omega (arith, s, l)
      | inr h ↦
          let e = c.loop-no.auto.no-end (omega (arith, h, c.max-first.ensures, c.if-numbers-from.false)) in
          omega (arith, e, c.loop-no-test.false)
    ] in
    done-then c.wait_if_pending-2.result _ _
    (λ e. e ∙ ap (λ xs. xs ++ filter p (numbers.last ∷ [])) (c.loop-no.invariant.listed run r ∙ ap (λ n. old ++ filter p (range_with_len numbers.first n)) many)
    ∙ append_assoc old (filter p all) (filter p (numbers.last ∷ [])) ∙ ap (λ xs. old ++ xs) (sym (filter_both p all (numbers.last ∷ []))))
    (c.wait_if_pending-2.ensures run r)
