use Rattle.std.proofs.Common.{◌∙◌, sym}
use Rattle.patch_shared.proofs.desks.Desk.close.Goals as goal

pub returns-clause-kept : goal.returns-clause-kept
returns-clause-kept g c = c.calls-calls.ensures.kept

pub returns-clause-commands : goal.returns-clause-commands
returns-clause-commands g c = c.args.self.all_commands ∙ sym (c.audit.ensures.whole c.requires.commands)

pub returns-clause-sends : goal.returns-clause-sends
returns-clause-sends g c = c.args.self.all_sends ∙ sym (c.audit-2.ensures.whole c.requires.sends)

pub returns-clause-completions : goal.returns-clause-completions
returns-clause-completions g c = c.args.self.all_completions ∙ sym (c.audit-3.ensures.whole c.requires.completions)
