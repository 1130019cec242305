use Rattle.patch_shared.specs.Conversations.{commands_in}
use Rattle.patch_files.proofs.Writers.{served_so, same_over, lasts_over}
use Rattle.patch_files.proofs.Unserved.{unserved_over}
use Rattle.patch_files.proofs.serving.serve_jobs.Goals as goal

pub returns-clause-device : goal.returns-clause-device
returns-clause-device g c = same_over g.D.Device c.finish.result _ _ c.in_ok-finished.ensures.device c.finish.ensures.device

pub returns-clause-served : goal.returns-clause-served
returns-clause-served g c honest blocks fresh writers lines are =
    let done = c.in_ok-finished.ensures in
    let still = done.device.honesty.0 honest in
    served_so g.D.Device c.finish.result c.in_ok-finished.finished (commands_in c.args.jobs.items) writers lines _ _ _
    (done.opening _ fresh) done.kept done.told are done.all done.settled (done.holds still) (c.finish.ensures.same still) c.finish.ensures.written

pub returns-clause-lasts : goal.returns-clause-lasts
returns-clause-lasts g c honest =
    let done = c.in_ok-finished.ensures in
    lasts_over g.D.Device c.finish.result _ _ (done.lasts honest) (c.finish.ensures.lasts (done.device.honesty.0 honest))

pub returns-clause-back : goal.returns-clause-back
returns-clause-back g c = unserved_over g.D.Device c.finish.result _ _ c.in_ok-finished.ensures.device c.finish.ensures.back
