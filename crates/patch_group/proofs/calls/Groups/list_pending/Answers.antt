use Rattle.std.proofs.Common.{◌∙◌, ◌++◌, List, ℕ, sym, ap, filter}
use Rattle.std.proofs.lemmas.Result.{IfOk-from_err}
use Rattle.patch_model.specs.State.{entries_of}
use Rattle.patch_plans.specs.Groups.{Group, is_pending}
use Rattle.patch_model.specs.Runs.{numbers_in}
use Rattle.patch_group.proofs.Reading.{group_there, group_missing}
use Rattle.patch_group.proofs.calls.Groups.list_pending.Goals.{in-Some+in_ok-wait_for_each, in_default}
use Rattle.patch_group.proofs.calls.Groups.list_pending.Goals as goal

pub returns-in_err-wait_for_each : goal.returns-in_err-wait_for_each
returns-in_err-wait_for_each g c run r = IfOk-from_err c.from_residual.result _ c.from_residual.ensures.0

pub returns : goal.returns
returns g c run r =
    let p = is_pending (entries_of run) in
    let kept : Group → List ℕ = λ x. filter p x.patches in
    let records = c.self.inside.groups.items in
    let view = ap (λ s. s.groups) c.self.view_is in
    elim c.match-get.branch [
      | in-Some+in_ok-wait_for_each w ↦
          ap (λ v. v.items) w.waiting-is ∙ w.in_ok-wait_for_each.ensures run r ∙ ap (λ ns. ns ++ filter p (numbers_in w.as_slice.result.now)) c.new-waiting.ensures.items
          ∙ ap (λ rs. filter p (numbers_in rs)) w.as_slice.ensures.value
          ∙ sym (ap kept (group_there records c.deref.result.now c.args.self.now c.args.group c.group.inside.0 c.deref.ensures.value view c.group.view_is w.in-Some.record.now
          w.in-Some.ensures.lookup.3.0 w.in-Some.ensures.lookup.1))
      | in_default w ↦
          ap (λ v. v.items) w.waiting-is ∙ c.new-waiting.ensures.items
          ∙ sym (ap kept (group_missing records c.deref.result.now c.args.self.now c.args.group c.group.inside.0 c.deref.ensures.value view c.group.view_is w.in_default.ensures.lookup.3))
    ]
