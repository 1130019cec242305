use Rattle.std.proofs.Common.{refl, sym, subst}
use Rattle.std.proofs.lemmas.Bool.{both_ways}
use Rattle.patch_shared.specs.Serving.{IsAt, IfReadBack}
use Rattle.patch_shared.proofs.Resting.{cause_so}
use Rattle.patch_shared.proofs.reading_back.compare_block.Goals as goal

-- a block that was read is told where it is another one than the cached one
pub returns-else-is_cached-clause-differs : goal.returns-else-is_cached-clause-differs
returns-else-is_cached-clause-differs g c honest run stands there = λ is.
    let given = c.in_ok-read_tried.ensures.given honest in
    both_ways _ c.if-is_cached.false ((c.is_cached.ensures run stands there).1 (cc))

-- and one that wasn't read isn't
pub returns-in_err-read_tried-clause-differs : goal.returns-in_err-read_tried-clause-differs
returns-in_err-read_tried-clause-differs g c honest run stands there =
    cause_so c.from_residual.result _ (IfReadBack run (g.D.Device.contents c.args.device.now)) c.from_residual.ensures.1
    (subst (IfReadBack run (g.D.Device.contents c.args.device.now)) (sym c.in_err-read_tried.ensures.told) tt)

pub returns-in_err-read_tried-clause-told : goal.returns-in_err-read_tried-clause-told
returns-in_err-read_tried-clause-told g c =
    cause_so c.from_residual.result _ (IsAt c.args.n) c.from_residual.ensures.1 (subst (IsAt c.args.n) (sym c.in_err-read_tried.ensures.told) refl)
