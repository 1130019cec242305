use Rattle.std.proofs.Common.{sym, subst}
use Rattle.patch_shared.specs.Serving.{HasGivenUpAt}
use Rattle.patch_shared.proofs.Resting.{gave_up_written}
use Rattle.patch_shared.proofs.completing.write_parcel.Goals as goal

pub returns-in-Err-clause-fault : goal.returns-in-Err-clause-fault
returns-in-Err-clause-fault g c =
    let flight = c.into_flight-flight.result in
    subst (λ b. HasGivenUpAt g.D.Device b c.args.device.now c.write_out_tried.new.device) (sym c.block-block.ensures)
    (gave_up_written g.D.Device flight.block flight.image c.args.device.now c.write_out_tried.new.device c.in-Err.ensures.gave_up c.in-Err.ensures.refused)
