use Rattle.std.proofs.Common.{ap, sym, subst}
use Rattle.patch_history.specs.Command.{Refused}
use Rattle.patch_room.specs.Putting.{PutsInRoom}
use Rattle.patch_disks.proofs.Rooming.{put_so}
use Rattle.patch_disks.proofs.answering.put_in_room.Goals as goal

pub returns-in-Ok : goal.returns-in-Ok
returns-in-Ok c h contents stands =
    put_so c.steps_extend.ensures.state c.images_stay.ensures c.disks_stay.ensures c.histories_begin.ensures h c.args.writer c.args.key.now c.args.value.now _
    c.args.store.now c.put.new.store contents c.in-Ok.ensures.answer stands

pub returns-in-Err : goal.returns-in-Err
returns-in-Err c h contents stands =
    put_so c.steps_extend.ensures.state c.images_stay.ensures c.disks_stay.ensures c.histories_begin.ensures h c.args.writer c.args.key.now c.args.value.now _
    c.args.store.now c.put.new.store contents
    (subst (λ reply. PutsInRoom 2 c.args.writer (record { key = c.args.key.now; value = c.args.value.now }) reply c.args.store.now c.put.new.store)
    (ap (λ r. Refused r) (sym c.refusal.ensures)) c.in-Err.ensures.answer) stands
