use Rattle.std.proofs.Common.{◌∙◌, sym, subst}
use Rattle.patch_disks.specs.Stopping.{TellsTest}
use Rattle.patch_disks.specs.Surveying.{AreBad}
use Rattle.patch_disks.proofs.Surveyed.{bad_more}
use Rattle.patch_disks.proofs.surveying.survey_blocks.Goals as goal

pub loop-preserved : goal.loop-preserved
loop-preserved c =
    let copied = c.in_ok-copy_blocks.ensures ∙ c.as_slice.ensures.value in
    let tells = subst (λ x. TellsTest x c.in-Err-Refused.field-0) copied c.in-Err-Refused.ensures.kind in
    let taken = c.in_ok-take_out-in-Err-Refused.ensures (subst (TellsTest c.loop.left.items) c.in-Err-Refused.field-0-is tells) in
    let bad = c.in_ok-take_out-in-Err-Refused.field-0 in
    subst (λ all. AreBad c.args.blocks.items all c.take_out.new.blocks.items) (sym c.in_ok-push-in-Err-Refused.ensures.items)
    (bad_more c.args.blocks.items c.loop.left.items c.take_out.new.blocks.items c.loop.bad.items bad taken.0 c.loop.invariant taken.1 taken.2)
