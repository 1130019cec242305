use Rattle.std.proofs.Common.{inl, inr, ap}
use Rattle.patch_disks.specs.declared.endings.Stop.TheVariants.{Refused}
use Rattle.patch_disks.specs.Stopping.{TellsTest}
use Rattle.patch_disks.proofs.Unused.{unused_store}
use Rattle.patch_disks.proofs.Stopping.{open_stops, kind_so}
use Rattle.patch_disks.proofs.opening.store_of.Goals as goal

pub returns-in-Ok-clause-new : goal.returns-in-Ok-clause-new
returns-in-Ok-clause-new c =
    let untouched = c.in_ok-cache.ensures.untouched in
    unused_store c.in-Ok.store _ c.in-Ok.ensures.cache untouched (c.in-Ok.ensures.opened untouched.first untouched.cache_is)

pub returns-in-Err-clause-stops : goal.returns-in-Err-clause-stops
returns-in-Err-clause-stops c =
    open_stops c.in-Err.fault _ _ (ap (λ r. Refused r) c.refusal.ensures) (c.in-Err.ensures.opened _ c.in_ok-cache.ensures.gives)

pub returns-in-Err-clause-kind : goal.returns-in-Err-clause-kind
returns-in-Err-clause-kind c = inr (c.in-Err.fault, ap (λ r. Refused r) c.refusal.ensures, c.in-Err.ensures.opened _ c.in_ok-cache.ensures.gives)

pub returns-in_err-cache-clause-kind : goal.returns-in_err-cache-clause-kind
returns-in_err-cache-clause-kind c = kind_so c.from_residual.result c.in_err-cache.field-0.0 (TellsTest c.args.blocks.items) c.from_residual.ensures.1 (inl c.in_err-cache.ensures.kind)

pub returns-in-Ok-clause-opened : goal.returns-in-Ok-clause-opened
returns-in-Ok-clause-opened c = c.in-Ok.ensures.opened _ c.in_ok-cache.ensures.gives
