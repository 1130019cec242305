use Rattle.std.proofs.Common.{◌∙◌, ap}
use Rattle.std.proofs.lemmas.List.{take_all}
use Rattle.patch_model.specs.Runs.{numbers_in}
use Rattle.patch_model.proofs.runs.list_all.Goals as goal

pub returns : goal.returns
returns g c = c.loop-run.invariant ∙ ap numbers_in (take_all c.loop-run.run-index c.args.runs.now c.loop-run-test.false)
