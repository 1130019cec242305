use Rattle.std.proofs.Common.{[], subst, get_or, refl}
use Rattle.std.proofs.lemmas.List.{take_all}
use Rattle.patch_model.specs.Runs.{numbers_in}
use Rattle.patch_model.specs.declared.runs.Run.{Run}
use Rattle.patch_graph.specs.Naming.{HasTaken, IsNamedBelow}
use Rattle.patch_graph.proofs.Naming.{taken-none, taken-run}
use Rattle.patch_graph.proofs.Places.{done-if}
use Rattle.patch_graph.proofs.runs.push_runs.Goals as goal

pub loop-run-init : goal.loop-run-init
loop-run-init g c =
    let seen = c.args.register.now in
    taken-none seen.slots seen.numbers (IsNamedBelow seen.made (numbers_in [])) c.args.all.now.items (λ n k. absurd k.0)

pub loop-run-preserved : goal.loop-run-preserved
loop-run-preserved g c =
    let seen = c.args.register.now in
    let d : Run = record { first = 0; last = 0 } in
    taken-run seen.slots seen.numbers seen.made c.args.runs.now c.loop-run.run-index (get_or c.args.runs.now c.loop-run.run-index d) d c.args.all.now.items c.loop-run.all.items c.push_run.new.all.items
    c.loop-run-test.true refl c.loop-run.invariant c.in_ok-push_run.ensures

pub returns : goal.returns
returns g c =
    let seen = c.args.register.now in
    subst (λ rs. HasTaken seen.slots seen.numbers (IsNamedBelow seen.made (numbers_in rs)) c.args.all.now.items c.loop-run.all.items) (take_all c.loop-run.run-index c.args.runs.now c.loop-run-test.false) c.loop-run.invariant

pub returns-in_err-push_run : goal.returns-in_err-push_run
returns-in_err-push_run g c = done-if _ _ c.from_residual.ensures.0
