use Rattle.patch_device.specs.Device.{never_fewer}
use Rattle.patch_disks.proofs.Going.{lasts_alike}
use Rattle.patch_disks.proofs.opening.finish_device.Goals as goal

pub returns-in-Ok-clause-device : goal.returns-in-Ok-clause-device
returns-in-Ok-clause-device g c =
    let done = c.finish.ensures in
    record {
      honesty = done.honesty;
      count = done.count;
      faults = never_fewer c.finish.result _ _ done.no_fault done.fault;
      spent = done.spent;
      time = done.time;
    }

pub returns-in-Err-clause-device : goal.returns-in-Err-clause-device
returns-in-Err-clause-device g c =
    let done = c.finish.ensures in
    record {
      honesty = done.honesty;
      count = done.count;
      faults = never_fewer c.finish.result _ _ done.no_fault done.fault;
      spent = done.spent;
      time = done.time;
    }

pub returns-in-Ok-clause-lasts : goal.returns-in-Ok-clause-lasts
returns-in-Ok-clause-lasts g c honest =
    lasts_alike g.D.Device c.args.device.now c.finish.new.self (returns-in-Ok-clause-device g c) c.finish.ensures.no_moment (c.finish.ensures.same honest)

pub returns-in-Err-clause-lasts : goal.returns-in-Err-clause-lasts
returns-in-Err-clause-lasts g c honest =
    lasts_alike g.D.Device c.args.device.now c.finish.new.self (returns-in-Err-clause-device g c) c.finish.ensures.no_moment (c.finish.ensures.same honest)
