use Rattle.std.proofs.Common.{◌≡◌, ◌∙◌, Some, None, sym, ap, subst}
use Rattle.std.specs.Prelude.{IfOk, option_map, string_bytes}
use Rattle.patch_history.specs.Commands.{command_of}
use Rattle.patch_commands.specs.Asking.{command_on}
use Rattle.patch_commands.specs.Shared.{writer_of}
use Rattle.patch_disks.specs.Running.{HasAnswered}
use Rattle.patch_disks.proofs.Asking.{call_is, sync_of_none}
use Rattle.patch_disks.proofs.Coming.{each_by_reply, saves_never}
use Rattle.patch_disks.proofs.Going.{ends_still}
use Rattle.patch_disks.proofs.answering.answer.Goals as goal

pub returns-in_err-command-clause-safe : goal.returns-in_err-command-clause-safe
returns-in_err-command-clause-safe g c honest h stands = ends_still g.D.Device h _ _ c.args.device.now stands

pub returns-in_default-clause-answered : goal.returns-in_default-clause-answered
returns-in_default-clause-answered g c honest h stands =
    let asked = c.args.line in
    let none : command_on asked ≡ None = sym c.in_ok-command.ensures ∙ ap (option_map command_of) c.in_default.is in
    subst (λ line. IfOk c.sync_all.result (λ text. HasAnswered g.D.Device c.args.reclaims h line (string_bytes text) c.sync_all.new.store c.args.device.now c.sync_all.new.device))
    (sym (sync_of_none asked none)) (c.sync_all.ensures.answered honest c.args.reclaims h (writer_of asked) stands)

pub returns-then-saves-clause-answered : goal.returns-then-saves-clause-answered
returns-then-saves-clause-answered g c honest h stands =
    let asked = c.args.line in
    let is : command_on asked ≡ Some (command_of c.in-Some.command) = sym c.in_ok-command.ensures ∙ ap (option_map command_of) c.in-Some.is in
    c.sync.ensures.answered honest h asked stands (sym c.is_sync-saves.ensures ∙ c.if-saves.true)
    (call_is asked c.writer-writer.result (command_of c.in-Some.command) c.writer-writer.ensures is)

pub returns-clause-answered : goal.returns-clause-answered
returns-clause-answered g c honest h stands =
    let asked = c.args.line in
    let is : command_on asked ≡ Some (command_of c.in-Some.command) = sym c.in_ok-command.ensures ∙ ap (option_map command_of) c.in-Some.is in
    each_by_reply g.D.Device c.args.reclaims h asked (c.writer-writer.result, command_of c.in-Some.command) c.answer_command.result c.answer_command.new.store c.args.device.now
    (call_is asked c.writer-writer.result (command_of c.in-Some.command) c.writer-writer.ensures is) (saves_never asked (sym c.is_sync-saves.ensures ∙ c.if-saves.false))
    (c.answer_command.ensures.answered h _ stands)

pub returns-clause-safe : goal.returns-clause-safe
returns-clause-safe g c honest h stands = ends_still g.D.Device h _ _ c.args.device.now stands
