use Rattle.std.proofs.Common.{inl, inr, subst}
use Rattle.std.specs.Prelude.{IfOk}
use Rattle.patch_store.specs.Opening.{IsOpened}
use Rattle.patch_disks.specs.Stopping.{HoldNoStore, TellsTest, TellsWhyNotOpened}
use Rattle.patch_disks.proofs.Stopping.{err_so, each_stop_for, kind_so, kind_for}
use Rattle.patch_disks.proofs.opening.open_store.Goals as goal

pub returns-clause-opened : goal.returns-clause-opened
returns-clause-opened g c honest = subst (λ blocks. IfOk c.store_of.result (IsOpened blocks)) (c.in_ok-blocks.ensures.gives honest) c.store_of.ensures.opened

pub returns-in_err-blocks-clause-stops : goal.returns-in_err-blocks-clause-stops
returns-in_err-blocks-clause-stops g c honest =
    err_so c.from_residual.result c.in_err-blocks.field-0.0 _ _ c.from_residual.ensures.1 (λ risen. inl risen) c.in_err-blocks.ensures.stops

pub returns-clause-stops : goal.returns-clause-stops
returns-clause-stops g c honest =
    each_stop_for c.store_of.result _ _ (λ none. inr (subst HoldNoStore (c.in_ok-blocks.ensures.gives honest) none)) c.store_of.ensures.stops

pub returns-in_err-blocks-clause-kind : goal.returns-in_err-blocks-clause-kind
returns-in_err-blocks-clause-kind g c honest =
    let faults = g.D.Device.fault_count in
    kind_so c.from_residual.result c.in_err-blocks.field-0.0 (TellsWhyNotOpened (faults c.args.device.now) (faults c.read_blocks.new.device) (g.D.Device.contents c.args.device.now)) c.from_residual.ensures.1 (inl c.in_err-blocks.ensures.kind)

pub returns-clause-kind : goal.returns-clause-kind
returns-clause-kind g c honest =
    let faults = g.D.Device.fault_count in
    kind_for c.store_of.result (TellsTest c.in_ok-blocks.blocks.items) (TellsWhyNotOpened (faults c.args.device.now) (faults c.read_blocks.new.device) (g.D.Device.contents c.args.device.now))
    (λ why told. inr (subst (λ blocks. TellsTest blocks why) (c.in_ok-blocks.ensures.gives honest) told)) c.store_of.ensures.kind
