use Rattle.std.proofs.Common.{◌∙◌, List, ℕ, inl, inr, sym, ap, subst}
use Rattle.std.proofs.lemmas.List.{take_all}
use Rattle.patch_model.specs.Runs.{numbers_in}
use Rattle.patch_numbers.specs.NumberList.{NumberList}
use Rattle.patch_stacks.specs.Names.{TakesMembers}
use Rattle.patch_numbers.proofs.Ranges.{of_some_run}
use Rattle.patch_stacks.proofs.Keeping.{none_taken, next_taken}
use Rattle.patch_stacks.proofs.names.keep_each.Goals as goal
use Rattle.patch_stacks.proofs.names.keep_each.Goals.{then-is_of_runs+in_ok-push, else-is_of_runs}

pub loop-no-init : goal.loop-no-init
loop-no-init g c = none_taken (numbers_in c.args.runs.now) c.args.kept.now.items

pub loop-no-preserved : goal.loop-no-preserved
loop-no-preserved g c =
    let runs = c.args.runs.now in
    let told = sym (c.is_of_runs.ensures ∙ of_some_run runs c.no-item.result) in
    next_taken c.args.numbers.now (numbers_in runs) c.args.kept.now.items c.loop-no.kept.items c.if-is_of_runs.kept.items c.loop-no.no-index c.no-item.result
    c.loop-no-test.true c.no-item.is c.loop-no.invariant
    (elim c.if-is_of_runs.branch [
      | then-is_of_runs+in_ok-push w ↦ inl (told ∙ w.if-is_of_runs.true, ap (λ (l : NumberList). l.items) w.kept-is ∙ w.in_ok-push.ensures.added)
      | else-is_of_runs w ↦ inr (told ∙ w.if-is_of_runs.false, ap (λ (l : NumberList). l.items) w.kept-is)
    ])

pub returns : goal.returns
returns g c =
    subst (λ (ns : List ℕ). TakesMembers ns (numbers_in c.args.runs.now) c.args.kept.now.items c.loop-no.kept.items)
    (take_all c.loop-no.no-index c.args.numbers.now c.loop-no-test.false) c.loop-no.invariant
