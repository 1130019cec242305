use Rattle.std.proofs.Common.{◌-◌, ◌<◌, ◌∙◌, length, arith}
use Rattle.patch_images.proofs.Baring.{bared-next}
use Rattle.patch_images.proofs.images.uncover_all.Goals as goal

pub loop-passed-preserved : goal.loop-passed-preserved
loop-passed-preserved g c =
    let test = c.loop-passed-test.true in
    let end = c.loop-passed.auto.passed-end in
    let within : c.loop-passed.passed < length c.args.classes.now = omega arith in (
      c.uncover.ensures ∙ bared-next c.args.classes.now c.args.copy.now c.loop-passed.copy c.loop-passed.passed (length c.args.classes.now - 1 - c.loop-passed.passed)
          c.index-classes-classes.result within (omega arith) c.index-classes-classes.is c.loop-passed.invariant.0,
      c.uncover.auto.copy ∙ c.loop-passed.invariant.1,
    )
