use Rattle.std.proofs.Common.{◌∙◌, get_or, ap, subst, min, List, ℕ}
use Rattle.std.proofs.lemmas.List.{take_all}
use Rattle.patch_model.specs.Runs.{numbers_in}
use Rattle.patch_model.specs.declared.runs.Run.{Run}
use Rattle.patch_numbers.specs.Runs.{LieWithin}
use Rattle.patch_numbers.proofs.Ranges.{around-more}
use Rattle.patch_numbers.proofs.runs.run_around.Goals as goal

pub loop-run-init : goal.loop-run-init
loop-run-init c n t = absurd (cc)

pub loop-run-preserved : goal.loop-run-preserved
loop-run-preserved c =
    let rs = c.args.runs.now in
    let i = c.loop-run.run-index in
    let one : Run = get_or rs i (record { first = 0; last = 0 }) in
    around-more rs i (record { first = 0; last = 0 }) c.loop-run.first c.loop-run.last c.min-first.result c.max-last.result c.loop-run-test.true
    (c.min-first.ensures ∙ ap (λ (k : ℕ). min k one.last) c.min.ensures) c.max-last.ensures c.loop-run.invariant

pub returns : goal.returns
returns c =
    let r : Run = record { first = c.loop-run.first; last = c.loop-run.last } in
    subst (λ (rs : List Run). LieWithin r (numbers_in rs)) (take_all c.loop-run.run-index c.args.runs.now c.loop-run-test.false) c.loop-run.invariant
