use Rattle.patch_device.specs.Device.{risen_where_refused}
use Rattle.patch_device.proofs.loading.read_block.Goals as goal

-- the block exists, so what was refused is a fault
pub returns-in-Err-clause-fault : goal.returns-in-Err-clause-fault
returns-in-Err-clause-fault g c _ =
    risen_where_refused _ _ _ _ _ c.in-Err.ensures.cause c.in-Err.ensures.no_such_block c.requires
