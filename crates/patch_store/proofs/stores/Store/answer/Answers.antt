use Rattle.std.proofs.Common.{◌∙◌, ap, sym, refl}
use Rattle.patch_group.specs.Refusals.{group_cause}
use Rattle.patch_history.specs.Command.{Get, Delete}
use Rattle.patch_history.specs.Commands.{command_of}
use Rattle.patch_history.specs.Refusals.{put_cause, delete_cause, reclaim_cause, upgrade_cause}
use Rattle.patch_store.proofs.Calling.{told_so, done_no_value, made_no_value, asked_put}
use Rattle.patch_store.proofs.stores.Store.answer.Goals as goal

pub returns-in-Put : goal.returns-in-Put
returns-in-Put g c =
    let asked = asked_put c.args.command.now c.in-Put.key c.in-Put.value _ _ c.in-Put.is c.as_slice.ensures c.as_slice-in-Put.ensures in
    let told = c.done_or_refused.ensures in
    record {
      answer = λ h was. told_so asked told (c.put.ensures.answer h was);
      read = λ bytes value. absurd (done_no_value put_cause c.put.result _ bytes told value);
    }

pub returns-in-Get : goal.returns-in-Get
returns-in-Get g c = record {
  answer = λ h was. told_so (ap command_of c.in-Get.is ∙ ap (λ key. Get key) (sym c.as_slice-in-Get.ensures)) refl (c.answer_get.ensures c.args.writer h was);
  read = λ bytes value. refl;
}

pub returns-in-Delete : goal.returns-in-Delete
returns-in-Delete g c =
    let told = c.done_or_refused-in-Delete.ensures in
    record {
      answer = λ h was. told_so (ap command_of c.in-Delete.is ∙ ap (λ key. Delete key) (sym c.as_slice-in-Delete.ensures)) told (c.delete.ensures.answer h was);
      read = λ bytes value. absurd (done_no_value delete_cause c.delete.result _ bytes told value);
    }

pub returns-in-Reclaim : goal.returns-in-Reclaim
returns-in-Reclaim g c =
    let told = c.done_or_refused-in-Reclaim.ensures in
    record {
      answer = λ h was. told_so (ap command_of c.in-Reclaim.is) told (c.reclaim.ensures.answer c.args.writer h was);
      read = λ bytes value. absurd (done_no_value reclaim_cause c.reclaim.result _ bytes told value);
    }

pub returns-in-Upgrade : goal.returns-in-Upgrade
returns-in-Upgrade g c =
    let told = c.done_or_refused-in-Upgrade.ensures in
    record {
      answer = λ h was. told_so (ap command_of c.in-Upgrade.is) told (c.upgrade.ensures.answer c.args.writer h was);
      read = λ bytes value. absurd (done_no_value upgrade_cause c.upgrade.result _ bytes told value);
    }

pub returns-in-Group : goal.returns-in-Group
returns-in-Group g c =
    let told = c.made_or_refused.ensures in
    record {
      answer = λ h was. told_so (ap command_of c.in-Group.is) told (c.create_group.ensures.answer c.args.writer h was);
      read = λ bytes value. absurd (made_no_value group_cause c.create_group.result _ bytes told value);
    }

pub returns-in-Engage : goal.returns-in-Engage
returns-in-Engage g c =
    let told = c.done_or_refused-in-Engage.ensures in
    record {
      answer = λ h was. told_so (ap command_of c.in-Engage.is) told (c.engage.ensures.answer h was);
      read = λ bytes value. absurd (done_no_value group_cause c.engage.result _ bytes told value);
    }

pub returns-in-Disengage : goal.returns-in-Disengage
returns-in-Disengage g c =
    let told = c.done_or_refused-in-Disengage.ensures in
    record {
      answer = λ h was. told_so (ap command_of c.in-Disengage.is) told (c.disengage.ensures.answer h was);
      read = λ bytes value. absurd (done_no_value group_cause c.disengage.result _ bytes told value);
    }

pub returns-in-Depend : goal.returns-in-Depend
returns-in-Depend g c =
    let told = c.done_or_refused-in-Depend.ensures in
    record {
      answer = λ h was. told_so (ap command_of c.in-Depend.is) told (c.depend.ensures.answer c.args.writer h was);
      read = λ bytes value. absurd (done_no_value group_cause c.depend.result _ bytes told value);
    }

pub returns-in-CloseGroup : goal.returns-in-CloseGroup
returns-in-CloseGroup g c =
    let told = c.done_or_refused-in-CloseGroup.ensures in
    record {
      answer = λ h was. told_so (ap command_of c.in-CloseGroup.is) told (c.close_group.ensures.answer c.args.writer h was);
      read = λ bytes value. absurd (done_no_value group_cause c.close_group.result _ bytes told value);
    }

pub returns-in-Pending : goal.returns-in-Pending
returns-in-Pending g c =
    let told = c.count_or_refused.ensures in
    record {
      answer = λ h was. told_so (ap command_of c.in-Pending.is) told (c.pending.ensures c.args.writer h was);
      read = λ bytes value. refl;
    }
