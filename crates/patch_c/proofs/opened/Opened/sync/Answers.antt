use Rattle.std.proofs.Common.{◌≡◌, rules}
use Rattle.std.specs.Prelude.{IsFalse}
use Rattle.patch_handles.specs.declared.answers.Answer.TheVariants.{Done}
use Rattle.patch_c.specs.Tape.{contents_of}
use Rattle.patch_c.proofs.Landing.{lands_so, empty_lasts, empty_stands}
use Rattle.patch_c.proofs.Staying.{synced_stands}
use Rattle.patch_c.proofs.opened.Opened.sync.Goals as goal

pub invariant_of-self : goal.invariant_of-self
invariant_of-self c =
    let done : IsFalse c.ne-self.result → c.on_tape-answer.result ≡ Done = search rules in
    record {
      stands = synced_stands c.on_tape-answer.result c.args.self.now.is_spent c.ne-self.result c.args.self.now.store c.save.new.store
          (contents_of c.args.self.now.device) (contents_of c.save.new.device) c.if-self.false c.args.self.now.stands
          (λ h stands done. c.save.ensures.saved tt h stands (c.on_tape-answer.ensures.done.0 done)) c.save.ensures.written done;
    }

pub returns-clause-saved : goal.returns-clause-saved
returns-clause-saved c h stands done = c.save.ensures.saved tt h stands (c.on_tape-answer.ensures.done.0 done)

pub returns-clause-lands : goal.returns-clause-lands
returns-clause-lands c unspent none h stands =
    let before = c.args.self.now.device in
    let kept = c.save.ensures.safe tt h (empty_stands h c.args.self.now.store before none stands) (empty_lasts before none) in
    lands_so h c.args.self.now.store c.save.new.store before c.save.new.device kept.writes kept.safe.counts none stands kept.represents kept.safe.time kept.safe.moments
    kept.safe.trail

pub returns-clause-lasts : goal.returns-clause-lasts
returns-clause-lasts c none done = c.save.ensures.lasts tt (c.on_tape-answer.ensures.done.0 done) (empty_lasts c.args.self.now.device none)

pub returns-clause-synced : goal.returns-clause-synced
returns-clause-synced c h still done = c.save.ensures.synced h still (c.on_tape-answer.ensures.done.0 done)

pub returns-clause-written : goal.returns-clause-written
returns-clause-written c unspent h represents = c.save.ensures.written h represents

pub returns-clause-gave_up : goal.returns-clause-gave_up
returns-clause-gave_up c = c.on_tape-answer.ensures.gave_up

pub returns-clause-sync_failed : goal.returns-clause-sync_failed
returns-clause-sync_failed c = c.on_tape-answer.ensures.sync_failed

pub returns-clause-cause : goal.returns-clause-cause
returns-clause-cause c unspent h represents counted = c.on_tape-answer.ensures.cause _ _ (c.save.ensures.cause h represents counted)
