use Rattle.std.proofs.Common.{ap}
use Rattle.patch_history.specs.Command.{Done}
use Rattle.patch_history.specs.Refusals.{put_cause}
use Rattle.patch_store.specs.Replies.{reply_to}
use Rattle.patch_handles.specs.Answering.{number_of}
use Rattle.patch_c.proofs.Putting.{full_so, reserve_so}
use Rattle.patch_c.proofs.opened.Opened.put_in_room.Goals as goal

pub invariant_of-self : goal.invariant_of-self
invariant_of-self c =
    record {
      stands = c.puts_stay.ensures _ _ 2 c.args.writer (record { key = c.args.key.now; value = c.args.value.now }) (reply_to put_cause (λ _. Done) c.put.result) _ c.put.new.store
          c.args.self.now.stands c.put.ensures.answer;
    }

pub returns-clause-told : goal.returns-clause-told
returns-clause-told c h represents =
    record { reply = reply_to put_cause (λ _. Done) c.put.result; number_is = ap number_of c.told.ensures; put = c.put.ensures.answer h represents }

pub returns-clause-room : goal.returns-clause-room
returns-clause-room c =
    record {
      full = λ h represents is. c.put.ensures.capacity h represents (full_so c.put.result _ (ap number_of c.told.ensures) is);
      same = λ h represents some is. c.put.ensures.same h represents some (full_so c.put.result _ (ap number_of c.told.ensures) is);
      reserve = λ h represents some not. c.put.ensures.reserve h represents some (reserve_so c.put.result _ (ap number_of c.told.ensures) not);
    }
