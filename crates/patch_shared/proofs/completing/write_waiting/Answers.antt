use Rattle.patch_shared.proofs.Resting.{fault_later}
use Rattle.patch_shared.proofs.completing.write_waiting.Goals as goal

pub returns-in_err-written-clause-fault : goal.returns-in_err-written-clause-fault
returns-in_err-written-clause-fault g c =
    fault_later g.D.Device c.from_residual.result _ c.args.device.now c.loop.device c.write_parcel.new.device c.from_residual.ensures.1 c.loop.invariant
    c.in_err-written.ensures.fault
