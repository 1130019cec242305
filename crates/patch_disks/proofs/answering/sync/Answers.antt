use Rattle.std.proofs.Common.{◌∙◌, ap, sym}
use Rattle.std.specs.Prelude.{string_bytes}
use Rattle.patch_history.specs.Command.{is_refused}
use Rattle.patch_history.specs.Commands.{command_of, reply_told}
use Rattle.patch_commands.specs.Reply.{reply_line}
use Rattle.patch_disks.proofs.Calling.{not_refused}
use Rattle.patch_disks.proofs.Coming.{sync_refused, sync_saved, sync_ends}
use Rattle.patch_disks.proofs.Going.{ends_still}
use Rattle.patch_disks.proofs.Stopping.{err_so}
use Rattle.patch_disks.proofs.answering.sync.Goals as goal

pub returns-in-Refused-clause-answered : goal.returns-in-Refused-clause-answered
returns-in-Refused-clause-answered g c honest h asked stands sync is =
    let reply = c.reply_to-reply.result in
    let contents = g.D.Device.contents c.args.device.now in
    let told = c.in_ok-reply_line.ensures ∙ sym (ap (λ r. reply_line (reply_told r)) c.in-Refused.is) in
    sync_refused g.D.Device c.args.reclaims h asked (c.args.writer, command_of c.args.command.now) (reply_told reply) (string_bytes c.in_ok-reply_line.field-0) c.reply_to-reply.new.store c.args.device.now
    is (ap (λ r. is_refused (reply_told r)) c.in-Refused.is) told (c.reply_to-reply.ensures h contents stands)

pub returns-in-Refused-clause-safe : goal.returns-in-Refused-clause-safe
returns-in-Refused-clause-safe g c honest h stands = ends_still g.D.Device h _ _ c.args.device.now stands

pub returns-in_err-reply_line-clause-safe : goal.returns-in_err-reply_line-clause-safe
returns-in_err-reply_line-clause-safe g c honest h stands = ends_still g.D.Device h _ _ c.args.device.now stands

pub returns-in_err-synced_line-clause-safe : goal.returns-in_err-synced_line-clause-safe
returns-in_err-synced_line-clause-safe g c honest h stands =
    let called = c.reply_to-reply.ensures h (g.D.Device.contents c.args.device.now) stands in
    sync_ends g.D.Device c.crashes_join.ensures.joined c.args.reclaims h (c.args.writer, command_of c.args.command.now) _ _ c.args.device.now c.save.new.device called
    (c.save.ensures.safe honest _ called.stands)

pub returns : goal.returns
returns g c = record {
  device = c.save.ensures.device;
  answered = λ honest h asked stands sync is.
      let reply = c.reply_to-reply.result in
      let contents = g.D.Device.contents c.args.device.now in
      let called = c.reply_to-reply.ensures h contents stands in
      sync_saved g.D.Device c.crashes_join.ensures.joined c.args.reclaims h asked (c.args.writer, command_of c.args.command.now) (reply_told reply) (string_bytes c.in_ok-synced_line.field-0)
      c.reply_to-reply.new.store c.save.new.store c.args.device.now c.save.new.device is sync (not_refused reply c.in_default.not-Refused) c.in_ok-synced_line.ensures called
      (c.in_ok-save.ensures.saved honest _ called.stands);
  lasts = λ honest. c.in_ok-save.ensures.lasts honest;
  safe = λ honest h stands.
      let called = c.reply_to-reply.ensures h (g.D.Device.contents c.args.device.now) stands in
      sync_ends g.D.Device c.crashes_join.ensures.joined c.args.reclaims h (c.args.writer, command_of c.args.command.now) _ _ c.args.device.now c.save.new.device called
      (c.save.ensures.safe honest _ called.stands);
  stops = λ honest h stands. tt;
}

pub returns-in_err-save-clause-safe : goal.returns-in_err-save-clause-safe
returns-in_err-save-clause-safe g c honest h stands =
    let called = c.reply_to-reply.ensures h (g.D.Device.contents c.args.device.now) stands in
    sync_ends g.D.Device c.crashes_join.ensures.joined c.args.reclaims h (c.args.writer, command_of c.args.command.now) _ _ c.args.device.now c.save.new.device called
    (c.save.ensures.safe honest _ called.stands)

pub returns-in_err-save-clause-stops : goal.returns-in_err-save-clause-stops
returns-in_err-save-clause-stops g c honest h stands =
    let called = c.reply_to-reply.ensures h (g.D.Device.contents c.args.device.now) stands in
    err_so c.from_residual-in_err-save.result c.in_err-save.field-0.0 _ _ c.from_residual-in_err-save.ensures.1 (λ risen. risen) (c.in_err-save.ensures.stops honest _ called.stands)
