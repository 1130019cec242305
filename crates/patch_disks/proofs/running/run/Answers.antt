use Rattle.std.proofs.Common.{refl, subst}
use Rattle.std.specs.Prelude.{Err}
use Rattle.patch_device.specs.SameDevice.{same_still}
use Rattle.patch_disks.specs.declared.endings.Status.TheVariants.{Unreadable}
use Rattle.patch_disks.specs.Ending.{script_text, IsToldOrStarved, IsConcluded}
use Rattle.patch_disks.specs.Stopping.{IsBroken}
use Rattle.patch_disks.proofs.Coming.{concluded_so, script_so}
use Rattle.patch_disks.proofs.Concluding.{fails_for, concluded_failed, of_script, said_none, concluded_stopped, refused_stopped, of_lines_met}
use Rattle.patch_disks.proofs.Going.{went_nowhere}
use Rattle.patch_disks.proofs.running.run.Goals as goal

pub returns-clause-done : goal.returns-clause-done
returns-clause-done g c honest done =
    script_so g.D.Device c.args.reclaims (g.R.Read.remaining c.args.reader.now.inner) _ _ _ _ _ c.in-Ok.lines.items c.in-Ok.ensures.parsed
    (concluded_so g.D.Device c.args.reclaims c.run_lines-ran.result c.in-Ok.lines.items _ _ _ _ _ _ (c.run_lines-ran.ensures.run honest) (c.conclude-2.ensures.done done))

pub returns-clause-lasts : goal.returns-clause-lasts
returns-clause-lasts g c honest done =
    (concluded_so g.D.Device c.args.reclaims c.run_lines-ran.result c.in-Ok.lines.items _ _ _ _ _ _ (c.run_lines-ran.ensures.run honest) (c.conclude-2.ensures.done done)).lasts

pub returns-clause-crash : goal.returns-clause-crash
returns-clause-crash g c honest lasting = c.run_lines-ran.ensures.crash honest lasting

pub returns-in-Err-Script-clause-crash : goal.returns-in-Err-Script-clause-crash
returns-in-Err-Script-clause-crash g c honest lasting =
    went_nowhere c.first_bytes_are_left.ensures g.D.Device c.args.device.now c.args.device.now (same_still g.D.Device c.args.device.now) refl lasting

pub returns-in-Err-Stopped-clause-crash : goal.returns-in-Err-Stopped-clause-crash
returns-in-Err-Stopped-clause-crash g c honest lasting =
    went_nowhere c.first_bytes_are_left.ensures g.D.Device c.args.device.now c.args.device.now (same_still g.D.Device c.args.device.now) refl lasting

pub returns-clause-failed : goal.returns-clause-failed
returns-clause-failed g c honest =
    let faults = g.D.Device.fault_count in
    let blocks = g.D.Device.contents c.args.device.now in
    fails_for c.conclude-2.result _ _ (of_lines_met _ _ c.conclude-2.new.writer.failed)
    (concluded_failed g.W.Write.contents g.W.Output.KeepsNothing c.run_lines-ran.new.writer c.conclude-2.new.writer c.run_lines-ran.result c.conclude-2.result
    (λ failed. IsBroken failed (faults c.args.device.now) (faults c.run_lines-ran.new.device) blocks) c.conclude-2.ensures.concluded (c.run_lines-ran.ensures.stops honest))

pub returns-clause-stopped : goal.returns-clause-stopped
returns-clause-stopped g c honest fine =
    let input = g.R.Read.remaining c.args.reader.now.inner in
    let written = g.W.Write.contents in
    let blocks = g.D.Device.contents c.args.device.now in
    concluded_stopped c.args.reclaims written g.W.Output.KeepsNothing c.run_lines-ran.new.writer c.conclude-2.new.writer c.run_lines-ran.result c.conclude-2.result input
    (written c.args.writer.now.inner) blocks c.conclude-2.ensures.concluded
    (λ ok. of_script c.args.reclaims input _ _ c.in-Ok.lines.items blocks c.in-Ok.ensures.parsed (c.run_lines-ran.ensures.some honest ok)) fine

pub returns-in-Err-Script-clause-stopped : goal.returns-in-Err-Script-clause-stopped
returns-in-Err-Script-clause-stopped g c honest fine =
    let written = g.W.Write.contents in
    let told =
    subst (λ why. IsToldOrStarved written g.W.Output.KeepsNothing c.args.writer.now c.refuse.new.writer (script_text why) (Unreadable why) c.refuse.result)
    c.in-Err-Script.why-is c.refuse.ensures.told in
    refused_stopped c.args.reclaims written g.W.Output.KeepsNothing c.args.writer.now c.refuse.new.writer c.in-Err-Script.why c.refuse.result
    (g.R.Read.remaining c.args.reader.now.inner) (g.D.Device.contents c.args.device.now) told fine

pub returns-in-Err-Stopped-clause-stopped : goal.returns-in-Err-Stopped-clause-stopped
returns-in-Err-Stopped-clause-stopped g c honest fine =
    let input = g.R.Read.remaining c.args.reader.now.inner in
    let written = g.W.Write.contents in
    let blocks = g.D.Device.contents c.args.device.now in
    let concluded =
    subst (λ stop. IsConcluded {T = Unit {0}} written g.W.Output.KeepsNothing c.args.writer.now c.conclude.new.writer (Err stop) c.conclude.result)
    c.in-Err-Stopped.stop-is c.conclude.ensures.concluded in
    concluded_stopped {T = Unit {0}} c.args.reclaims written g.W.Output.KeepsNothing c.args.writer.now c.conclude.new.writer (Err c.in-Err-Stopped.stop) c.conclude.result
    input (written c.args.writer.now.inner) blocks concluded (λ ok. said_none c.args.reclaims input (written c.args.writer.now.inner) blocks) fine
