use Rattle.patch_group.specs.Runs.{group_answer_of, group_ask_of}
use Rattle.patch_replay.proofs.Asking.{counted, grouped, asked_one}
use Rattle.patch_replay.proofs.cached_disk.CachedDisk.ask.Goals as goal

pub returns : goal.returns
returns c = λ w at.
    let core = c.args.self.now in
    let served = c.answer-answer.ensures in
    let done = served.answer w.run (record { on = record { runs = at.runs; blocks = counted core w at }; groups_are = grouped core w at }) in
    asked_one c.steps_extend.ensures.state c.images_stay.ensures w core _ (group_ask_of c.args.ask) (group_answer_of c.answer-answer.result) c.answer_of_ask.result
    at c.answer_of_ask.ensures.is c.answer_of_ask.ensures.served
    (record { right = done.right; runs = done.passed.stands.on.runs; groups = served.groups; groups_are = done.passed.stands.groups_are; wrote = done.passed.written tt })
