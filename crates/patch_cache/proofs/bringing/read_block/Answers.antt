use Rattle.std.proofs.Common.{sym, subst, ◌<◌, ℕ}
use Rattle.patch_device.specs.Device.{risen_where_refused}
use Rattle.patch_cache.proofs.bringing.read_block.Goals as goal

-- the block exists, so what was refused is a fault
pub returns-in-Err-clause-fault : goal.returns-in-Err-clause-fault
returns-in-Err-clause-fault g c is known =
    risen_where_refused _ _ _ _ _ c.in-Err.ensures.cause c.in-Err.ensures.no_such_block (subst (λ (n : ℕ). n < g.D.Device.block_count c.args.device.now) (sym c.block.view_is) known)
