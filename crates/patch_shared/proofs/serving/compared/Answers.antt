use Rattle.std.proofs.Common.{◌∙◌, refl}
use Rattle.patch_shared.specs.Conversations.{commands_in}
use Rattle.patch_shared.proofs.Served.{served_so}
use Rattle.patch_shared.proofs.serving.compared.Goals as goal

pub returns-clause-served : goal.returns-clause-served
returns-clause-served g c =
    let ran = c.args.ran in
    let agreed = c.if-not-agrees.ensures in
    let finished = c.finish.ensures in
    served_so g.D.Device ran.book ran.device ran.replies c.args.opening.items (commands_in c.args.jobs.now) c.finish.result finished.book finished.replies finished.holds finished.device finished.lasts
    (agreed.opening refl ∙ c.as_slice.ensures.value) c.requires.kept (agreed.told refl) c.requires.all (agreed.settled refl)

pub returns-clause-fault : goal.returns-clause-fault
returns-clause-fault g c = c.finish.ensures.fault
