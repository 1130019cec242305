use Rattle.std.proofs.Common.{◌∙◌, inl, inr, refl, sym, arith}
use Rattle.patch_cache.specs.Waves.{steps_since}
use Rattle.patch_store.specs.Flushing.{run_after}
use Rattle.patch_disks.specs.Stopping.{flush_stop, starved, TellsWhyNotSaved}
use Rattle.patch_disks.proofs.Going.{goes_by_writes, lasts_both}
use Rattle.patch_disks.proofs.Saving.{flushed_goes, flushed_ends, flushed_stands, saved_so}
use Rattle.patch_disks.proofs.Stopping.{err_so, flush_stops, risen_behind, kind_so, end_stops}
use Rattle.patch_disks.proofs.opening.save.Goals as goal

pub returns-clause-saved : goal.returns-clause-saved
returns-clause-saved g c honest h stands =
    let d = g.D.Device in
    let steps = steps_since c.args.store.now.cache c.flush.new.store.cache in
    let kept = c.flush.ensures.disk honest h stands.still.represents in
    let written = c.flush.ensures.ran h stands.still.represents in
    let there = flushed_stands h steps c.flush.new.store (d.contents c.flush.new.device) written (c.in_ok-flush.ensures.flushed h stands.still)
    (kept.images stands.images) (c.in_ok-flush.ensures.cached honest h stands.still stands.images) in
    saved_so d h steps c.flush.new.store c.drain_trace.new.self c.args.device.now c.flush.new.device c.finish_device.new.device there.0 there.1 there.2
    (c.finish_device.ensures.same (c.flush.ensures.device.honesty.0 honest)) c.drain_trace.ensures.same
    (flushed_goes d c.crashes_join.ensures.joined h steps c.args.device.now c.flush.new.device c.finish_device.new.device kept
    c.finish_device.ensures.device c.finish_device.ensures.no_moment)

pub returns-clause-lasts : goal.returns-clause-lasts
returns-clause-lasts g c honest =
    lasts_both g.D.Device c.args.device.now c.flush.new.device c.finish_device.new.device (c.in_ok-flush.ensures.lasts honest)
    (c.finish_device.ensures.lasts (c.flush.ensures.device.honesty.0 honest))

pub returns-in_err-flush-clause-safe : goal.returns-in_err-flush-clause-safe
returns-in_err-flush-clause-safe g c honest h stands =
    let steps = steps_since c.args.store.now.cache c.flush.new.store.cache in
    flushed_ends g.D.Device h steps c.flush.new.store c.args.device.now c.flush.new.device (c.flush.ensures.ran h stands.still.represents)
    (goes_by_writes g.D.Device h steps c.args.device.now c.flush.new.device (c.flush.ensures.disk honest h stands.still.represents))

pub returns-in_err-finish_device-clause-safe : goal.returns-in_err-finish_device-clause-safe
returns-in_err-finish_device-clause-safe g c honest h stands =
    let steps = steps_since c.args.store.now.cache c.flush.new.store.cache in
    flushed_ends g.D.Device h steps c.flush.new.store c.args.device.now c.finish_device.new.device (c.flush.ensures.ran h stands.still.represents)
    (flushed_goes g.D.Device c.crashes_join.ensures.joined h steps c.args.device.now c.flush.new.device c.finish_device.new.device
    (c.flush.ensures.disk honest h stands.still.represents) c.finish_device.ensures.device c.finish_device.ensures.no_moment)

pub returns-in_err-drain_trace-clause-safe : goal.returns-in_err-drain_trace-clause-safe
returns-in_err-drain_trace-clause-safe g c honest h stands =
    let steps = steps_since c.args.store.now.cache c.flush.new.store.cache in
    flushed_ends g.D.Device h steps c.flush.new.store c.args.device.now c.finish_device.new.device (c.flush.ensures.ran h stands.still.represents)
    (flushed_goes g.D.Device c.crashes_join.ensures.joined h steps c.args.device.now c.flush.new.device c.finish_device.new.device
    (c.flush.ensures.disk honest h stands.still.represents) c.finish_device.ensures.device c.finish_device.ensures.no_moment)

pub returns-clause-safe : goal.returns-clause-safe
returns-clause-safe g c honest h stands =
    let steps = steps_since c.args.store.now.cache c.flush.new.store.cache in
    flushed_ends g.D.Device h steps c.flush.new.store c.args.device.now c.finish_device.new.device (c.flush.ensures.ran h stands.still.represents)
    (flushed_goes g.D.Device c.crashes_join.ensures.joined h steps c.args.device.now c.flush.new.device c.finish_device.new.device
    (c.flush.ensures.disk honest h stands.still.represents) c.finish_device.ensures.device c.finish_device.ensures.no_moment)

pub returns-in_err-flush-clause-stops : goal.returns-in_err-flush-clause-stops
returns-in_err-flush-clause-stops g c honest h stands =
    let faults = g.D.Device.fault_count in
    let refusal = c.in_err-flush.field-0.0 in
    let counted = sym (g.met.D.Device.blocks_counted c.args.device.now honest) ∙ stands.images.count in
    err_so c.from_residual.result (flush_stop refusal) _ _ c.from_residual.ensures.1 (λ risen. risen)
    (flush_stops refusal _ (faults c.args.device.now) (faults c.flush.new.device) (faults c.flush.new.device) refl (c.in_err-flush.ensures.gave_up h stands.still.represents counted)
    c.flush.ensures.device.faults (omega arith) (g.met.D.Device.faults_fit c.flush.new.device))

pub returns-in_err-finish_device-clause-stops : goal.returns-in_err-finish_device-clause-stops
returns-in_err-finish_device-clause-stops g c honest h stands =
    err_so c.from_residual-in_err-finish_device.result c.in_err-finish_device.field-0.0 _ _ c.from_residual-in_err-finish_device.ensures.1
    (λ risen. risen_behind g.D.Device _ _ _ (g.met.D.Device.faults_fit c.finish_device.new.device) c.flush.ensures.device risen) c.in_err-finish_device.ensures.stops

pub returns-in_err-flush-clause-kind : goal.returns-in_err-flush-clause-kind
returns-in_err-flush-clause-kind g c honest h stands =
    let d = g.D.Device in
    let refusal = c.in_err-flush.field-0.0 in
    let counted = sym (g.met.D.Device.blocks_counted c.args.device.now honest) ∙ stands.images.count in
    kind_so c.from_residual.result (flush_stop refusal) (TellsWhyNotSaved d (run_after h c.args.store.now c.flush.new.store) c.args.device.now c.flush.new.device) c.from_residual.ensures.1
    (inr (inl (refusal, refl, c.in_err-flush.ensures.refused h stands.still.represents counted)))

pub returns-in_err-finish_device-clause-kind : goal.returns-in_err-finish_device-clause-kind
returns-in_err-finish_device-clause-kind g c honest h stands =
    let d = g.D.Device in
    let why = c.in_err-finish_device.field-0.0 in
    let run = run_after h c.args.store.now c.flush.new.store in
    kind_so c.from_residual-in_err-finish_device.result why (TellsWhyNotSaved d run c.args.device.now c.finish_device.new.device) c.from_residual-in_err-finish_device.ensures.1
    (end_stops d run c.args.device.now c.flush.new.device c.finish_device.new.device why (g.met.D.Device.faults_fit c.finish_device.new.device) c.flush.ensures.device
    (c.in_ok-flush.ensures.flushed h stands.still) c.in_err-finish_device.ensures.kind)

pub returns-in_err-drain_trace-clause-kind : goal.returns-in_err-drain_trace-clause-kind
returns-in_err-drain_trace-clause-kind g c honest h stands =
    kind_so c.from_residual-in_err-drain_trace.result starved (TellsWhyNotSaved g.D.Device (run_after h c.args.store.now c.drain_trace.new.self) c.args.device.now c.finish_device.new.device)
    c.from_residual-in_err-drain_trace.ensures.1 (inl refl)
