use Rattle.std.proofs.Common.{◌∙◌, ◌++◌, sym, ap, append-nil}
use Rattle.patch_model.specs.Runs.{numbers_in}
use Rattle.patch_group.proofs.Reading.{group_missing}
use Rattle.patch_group.proofs.calls.Groups.list_runs.Goals as goal

pub returns-in_default : goal.returns-in_default
returns-in_default g c =
    sym (ap (λ x. numbers_in c.args.listed.now.items ++ x.patches) (group_missing c.self.inside.groups.items c.deref.result.now c.args.self.now c.args.group c.group.inside.0 c.deref.ensures.value (ap (λ s. s.groups) c.self.view_is) c.group.view_is c.in_default.ensures.lookup.3)
    ∙ append-nil (numbers_in c.args.listed.now.items))
