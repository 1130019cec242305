use Rattle.std.proofs.Common.{inr, sym}
use Rattle.patch_disks.proofs.Coming.{ok_so, run_behind_reads}
use Rattle.patch_disks.proofs.Going.{went_nowhere, went_so}
use Rattle.patch_disks.proofs.Stopping.{none_written, err_so, each_stop_for, broken_behind}
use Rattle.patch_disks.proofs.running.run_lines.Goals as goal

pub returns-clause-run : goal.returns-clause-run
returns-clause-run g c honest =
    ok_so c.answer_and_save-ran.result _ _
    (run_behind_reads g.D.Device c.crashes_join.ensures.joined c.args.reclaims c.args.lines.items _ _ _ c.args.device.now c.open_store.new.device c.answer_and_save-ran.new.device
    c.open_store.ensures.device c.open_store.ensures.no_moment (c.open_store.ensures.same honest))
    (c.answer_and_save-ran.ensures.run (c.open_store.ensures.device.honesty.0 honest) _ (sym (c.open_store.ensures.same honest)) (c.in_ok-store.ensures.opened honest))

pub returns-in_err-store-clause-crash : goal.returns-in_err-store-clause-crash
returns-in_err-store-clause-crash g c honest lasting =
    went_nowhere c.first_bytes_are_left.ensures g.D.Device c.args.device.now c.open_store.new.device c.open_store.ensures.device c.open_store.ensures.no_moment lasting

pub returns-clause-crash : goal.returns-clause-crash
returns-clause-crash g c honest lasting =
    let opened = c.in_ok-store.ensures.opened honest in
    went_so c.first_bytes_are_left.ensures g.D.Device c.crashes_join.ensures.joined _ c.args.device.now c.open_store.new.device c.answer_and_save-ran.new.device opened
    c.open_store.ensures.device c.open_store.ensures.no_moment lasting
    (c.answer_and_save-ran.ensures.safe (c.open_store.ensures.device.honesty.0 honest) _ (sym (c.open_store.ensures.same honest)) opened)

pub returns-in_err-store-clause-some : goal.returns-in_err-store-clause-some
returns-in_err-store-clause-some g c honest fine = none_written c.args.reclaims c.args.lines.items _ _

pub returns-clause-some : goal.returns-clause-some
returns-clause-some g c honest =
    c.answer_and_save-ran.ensures.some (c.open_store.ensures.device.honesty.0 honest) _ (sym (c.open_store.ensures.same honest)) (c.in_ok-store.ensures.opened honest)

pub returns-in_err-store-clause-stops : goal.returns-in_err-store-clause-stops
returns-in_err-store-clause-stops g c honest =
    err_so c.from_residual.result c.in_err-store.field-0.0 _ _ c.from_residual.ensures.1 (λ cause. inr cause) (c.in_err-store.ensures.stops honest)

pub returns-clause-stops : goal.returns-clause-stops
returns-clause-stops g c honest =
    each_stop_for c.answer_and_save-ran.result _ _ (broken_behind g.D.Device _ _ _ _ _ (g.met.D.Device.faults_fit c.answer_and_save-ran.new.device) c.open_store.ensures.device)
    (c.answer_and_save-ran.ensures.stops (c.open_store.ensures.device.honesty.0 honest) _ (sym (c.open_store.ensures.same honest)) (c.in_ok-store.ensures.opened honest))
