use Rattle.std.proofs.Common.{false, true, ◌≡◌, ◌<◌, ◌∙◌, refl, sym, ap, length, arith}
use Rattle.std.specs.Prelude.{option_map}
use Rattle.patch_history.specs.Commands.{command_of}
use Rattle.patch_shared.specs.Conversations.{commands_in}
use Rattle.patch_files.proofs.LineByLine.{commands_long, nothing_asked, of_another, one_more}
use Rattle.patch_files.proofs.jobs.take_line.Goals as goal

pub returns-in_default-clause-jobs : goal.returns-in_default-clause-jobs
returns-in_default-clause-jobs c =
    nothing_asked c.args.line (commands_in c.args.jobs.now.items) (sym c.in_ok-command.ensures ∙ ap (option_map command_of) c.in_default.is)

pub returns-in_ok-push-clause-jobs : goal.returns-in_ok-push-clause-jobs
returns-in_ok-push-clause-jobs c =
    let within = c.in-Some-get_mut.ensures.variant.0 refl in
    let long = c.args.jobs.now.ok.0 in
    one_more c.args.line c.args.jobs.now.items c.writer-2.inside.0 c.push.new.self c.in-Some-get_mut.job.now c.in-Some.command
    (omega (arith, within, long)) (c.writer-2.view_is ∙ c.writer.ensures) (sym (ap (option_map command_of) c.in-Some.is) ∙ c.in_ok-command.ensures)
    c.in_ok-push.ensures.items c.in-Some-get_mut.ensures.value

pub returns-in_default-get_mut-clause-jobs : goal.returns-in_default-get_mut-clause-jobs
returns-in_default-get_mut-clause-jobs c =
    let out : c.writer-2.inside.0 < length c.args.jobs.now.items → ⊥ = λ within.
    let no : false ≡ true = c.in_default-get_mut.ensures.variant.1 (omega (arith, within, c.args.jobs.now.ok.0)) in cc in
    of_another c.args.line (commands_in c.args.jobs.now.items) (omega (arith, out, commands_long c.args.jobs.now.items, c.writer-2.view_is, c.writer.ensures))
