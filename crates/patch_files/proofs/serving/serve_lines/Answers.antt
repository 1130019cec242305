use Rattle.patch_files.proofs.Writers.{same_over, lasts_over, lasts_alike}
use Rattle.patch_files.proofs.Unserved.{back_over}
use Rattle.patch_files.proofs.serving.serve_lines.Goals as goal

pub returns-in-Ok-clause-device : goal.returns-in-Ok-clause-device
returns-in-Ok-clause-device g c = same_over g.D.Device c.serve_jobs.result _ _ c.prepare.ensures.device c.serve_jobs.ensures.device

pub returns-in-Ok-clause-served : goal.returns-in-Ok-clause-served
returns-in-Ok-clause-served g c honest =
    let ready = c.in-Ok.ensures in
    c.serve_jobs.ensures.served (c.prepare.ensures.device.honesty.0 honest) _ (ready.opened honest) c.args.writers c.args.lines.items
    ready.jobs

pub returns-in-Ok-clause-lasts : goal.returns-in-Ok-clause-lasts
returns-in-Ok-clause-lasts g c honest =
    let ready = c.prepare.ensures in
    lasts_over g.D.Device c.serve_jobs.result _ _ (lasts_alike g.D.Device _ _ ready.device ready.no_moment (ready.same honest))
    (c.serve_jobs.ensures.lasts (ready.device.honesty.0 honest))

pub returns-in-Ok-clause-back : goal.returns-in-Ok-clause-back
returns-in-Ok-clause-back g c = back_over g.D.Device c.serve_jobs.result _ _ c.prepare.ensures.device c.serve_jobs.ensures.back
